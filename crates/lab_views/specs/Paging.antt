-- How much of a list is shown.
use Rattle.std.specs.Prelude.{ℕ, List, take, drop, min, ◌==◌, if◌then◌else◌}

-- the count that was asked for, up to a most; 0 asks for a usual count
abbrev pub asked_for : ℕ → ℕ → ℕ → ℕ
asked_for usual most count = if count == 0 then usual else min count most

-- that many elements of a list from one on, where 0 is the first
abbrev pub page : {A : Type 0} → ℕ → ℕ → List A → List A
page start count xs = take count (drop start xs)
