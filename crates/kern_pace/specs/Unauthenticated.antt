-- How a channel throttles connections while many unauthenticated peers come: peers that left without a
-- message that opens. Times are milliseconds since the server began.
use Rattle.std.specs.Prelude.{◌≡◌, ℕ, ◌+◌, ◌-◌, ◌<◌, min, List, ◌∷◌, [], ◌++◌, drop, All}

-- until when each of the last eight unauthenticated peers counts, and when the next turn begins at the
-- earliest
pub record ThrottleState : Type 0 where
  pub until : List ℕ
  pub next : ℕ

-- an unauthenticated peer that left now counts for a second, in place of the first of the last eight
abbrev pub with_unauthenticated : ℕ → ThrottleState → ThrottleState
with_unauthenticated now s = record s { until = drop 1 s.until ++ (now + 1000) ∷ [] }

-- all of the last eight still count
abbrev pub IsCrowded : ℕ → ThrottleState → Type 0
IsCrowded now s = All (λ until. now < until) s.until

-- a connection waits this long for its turn, at most 800 milliseconds, and the next turn comes 50 later
pub record HasTurn (now : ℕ) (old new : ThrottleState) (wait : ℕ) : Type 0 where
  pub waits : wait ≡ min (old.next - now) 800
  pub then : new ≡ record old { next = now + wait + 50 }
