-- How long a running cell and a subscriber wait so that the journal lasts.
use Rattle.std.specs.Prelude.{ℕ, ◌*◌, ◌/◌, ◌-◌, min, max}
use Rattle.kern_pace.specs.declared.pace.Look.{Look}
use Rattle.kern_pace.specs.declared.pace.Look.TheVariants.{Posts, Nothing}

-- The time for `spent` entries at the rate that makes the `rest` of the journal last six hours (21,600
-- seconds), in microseconds, but never more than `most`.
unfoldable pub pause : ℕ → ℕ → ℕ → ℕ
pause most spent rest = min (spent * 21600000000 / rest) most

-- the pause of a running cell after this many slices of its own: 50 milliseconds at most, whatever entries
-- others make
abbrev pub slice_pause : ℕ → ℕ → ℕ
slice_pause slices entries = pause 50000 (min slices 4194304) (max (4194304 - entries) 1)

-- its pause after this many slices that posted faster than readers read: 250 microseconds each, 50
-- milliseconds at most
abbrev pub lag_pause : ℕ → ℕ
lag_pause slices = min (min slices 4194304 * 250) 50000

-- the pause of a subscriber after this many entries of all connections: a second at most
abbrev pub subscription_pause : ℕ → ℕ → ℕ
subscription_pause spent entries = pause 1000000 (min spent 4194304) (max (4194304 - entries) 1)

-- The time to the next look for posts of a running cell, in microseconds: 5,000 if the last look found some,
-- else twice as long as before, up to 100,000.
unfoldable pub next_gap : ℕ → Look → ℕ
next_gap gap Posts = 5000
next_gap gap Nothing = min (2 * gap) 100000
