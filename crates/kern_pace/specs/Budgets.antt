-- How fast a channel reads unsigned bytes: 256,000 at once, and then 4,000 a second. Times are milliseconds
-- since the server began.
use Rattle.std.specs.Prelude.{ℕ, ◌+◌, ◌-◌, ◌*◌, ◌/◌, min, max}

-- how many bytes are owed, and since when
pub record BudgetState : Type 0 where
  pub owed : ℕ
  pub since : ℕ

-- what is still owed now: each millisecond pays for four bytes
abbrev pub owed_at : ℕ → BudgetState → ℕ
owed_at now b = b.owed - 4 * (now - b.since)

-- with so many bytes more
abbrev pub after_bytes : ℕ → ℕ → BudgetState → BudgetState
after_bytes now bytes b = record { owed = min (owed_at now b + bytes) 1000000000000; since = max now b.since }

-- how many milliseconds it takes until no more than 256,000 bytes are owed
abbrev pub wait_at : ℕ → BudgetState → ℕ
wait_at now b = (owed_at now b - 256000 + 3) / 4
