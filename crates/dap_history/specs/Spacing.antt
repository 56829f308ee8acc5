-- Which saved moments stay as a run goes on: the farther back, the fewer. Distances are counted in units of
-- 1,048,576 steps.
use Rattle.std.specs.Prelude.{ℕ, zero, suc, ◌-◌, ◌*◌, ◌/◌, ◌%◌, ◌==◌, Bool, nat_le, if◌then◌else◌}

-- the first of p, 2p, 4p and so on of which 17 cover the distance
unfoldable pub spacing_from : ℕ → ℕ → ℕ → ℕ
spacing_from zero p distance = p
spacing_from (suc more) p distance =
    if nat_le distance (17 * p) then p else spacing_from more (2 * p) distance

abbrev pub spacing : ℕ → ℕ
spacing distance = spacing_from 44 1 distance

-- after this count of steps, in units
abbrev pub unit_of : ℕ → ℕ
unit_of count = count / 1048576

-- a moment saved in this unit stays if the unit is a multiple of its distance's spacing
abbrev pub stays_in : ℕ → ℕ → Bool
stays_in unit now = unit % spacing (now - unit) == 0

abbrev pub stays : ℕ → ℕ → Bool
stays count now = stays_in (unit_of count) (unit_of now)
