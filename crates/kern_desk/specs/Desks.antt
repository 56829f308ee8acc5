-- Desks that were opened, and desks that are closed.
use Rattle.std.specs.Prelude.{◌≡◌, ◌≢◌, ℕ, List, length, All, Option, IfSome, IfNone}
use Rattle.lab_turn.specs.History.{TurnstileState, PassState, FreshFrom, IsHistoryOf}
use Rattle.kern_calls.specs.declared.call.Call.{Call}
use Rattle.kern_desk.specs.Seats.{SeatedState}

-- a desk with this limit and so many seats, and one pass for each seat, with which no call was made
pub record IsNewDesk (limit seats : ℕ) (opened : TurnstileState) (made : List (PassState Call))
    : Type 0 where
  pub desk : (opened.seats ≡ seats) × (opened.limit ≡ limit)
  pub count : length made ≡ seats
  pub passes : FreshFrom 0 opened made
  pub own : All (λ (p : PassState Call). p.turnstile ≡ opened) made

-- the desk returns the kernel, in whose journal are exactly the calls of all the passes; or a pass is
-- missing
pub record ClosesDesk (desk : TurnstileState) (passes : List (PassState Call)) (kernel : Option SeatedState)
    : Type 0 where
  pub history : IfSome kernel (λ (s : SeatedState). IsHistoryOf desk passes s.entries)
  pub limit : IfSome kernel (λ (s : SeatedState). s.limit ≡ desk.limit)
  pub all : IfSome kernel (λ (s : SeatedState). length passes ≡ desk.seats)
  pub missing : IfNone kernel (length passes ≢ desk.seats)
