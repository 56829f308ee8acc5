-- Histories of calls, and the turnstile and its passes as their users see them.
use Rattle.std.specs.Prelude.{◌≡◌, ◌≢◌, ℕ, ◌<◌, ◌≤◌, ◌==◌, Bool, true, false, List, [], ◌∷◌, ◌++◌, map}
use Rattle.std.specs.Prelude.{length, All, EachIndex, slice_get, Some, ◌+◌}
use Rattle.std.specs.List.{filter}
use mathlib.Core.List.{IsPrefix}
use Rattle.atomic_table.specs.Seated.{TableId}

-- the calls of one seat, in order
abbrev pub calls_of : {C : Type 0} → ℕ → List (ℕ × C) → List C
calls_of seat history = map (λ e. e.1) (filter (λ e. e.0 == seat) history)

-- a history of calls by these seats that fits the journal
pub record IsLegal {C : Type 0} (seats limit : ℕ) (history : List (ℕ × C)) : Type 0 where
  pub fits : length history ≤ limit
  pub made : All (λ (e : ℕ × C). e.0 < seats) history

-- a turnstile: which one it is, its number of seats, and the limit of its value's journal
pub record TurnstileState : Type 0 where
  pub table : TableId
  pub seats : ℕ
  pub limit : ℕ

-- a pass: its turnstile, its seat, the history that it has seen, its own calls, and whether it found no
-- ticket left
pub record PassState (C : Type 0) : Type 0 where
  pub turnstile : TurnstileState
  pub seat : ℕ
  pub seen : List (ℕ × C)
  pub calls : List C
  pub out_of_tickets : Bool

-- a pass with which no call was made
abbrev pub fresh_pass : {C : Type 0} → TurnstileState → ℕ → PassState C
fresh_pass turnstile seat = record {
  turnstile = turnstile;
  seat = seat;
  seen = [];
  calls =
      [];
  out_of_tickets = false;
}

-- the passes of the seats from this one on, with which no call was made
abbrev pub FreshFrom : {C : Type 0} → ℕ → TurnstileState → List (PassState C) → Type 0
FreshFrom first turnstile passes =
    EachIndex passes (λ k. slice_get passes k ≡ Some (fresh_pass turnstile (first + k)))

module _ {C Y : Type 0} (answer : List (ℕ × C) → C → Y) where
  -- the call is the last entry of a history that continues what the pass had seen, and the reply is the one
  -- that belongs there
  pub record Enters (old : PassState C) (call : C) (reply : Y) (new : PassState C) : Type 0 where
    pub before : List (ℕ × C)
    pub history : new.seen ≡ before ++ (old.seat, call) ∷ []
    pub onward : IsPrefix old.seen before
    pub answered : reply ≡ answer before call
    pub counted : new.calls ≡ old.calls ++ call ∷ []

-- the pass sees a history that continues what it had seen, with no new call of its seat
pub record Sees {C : Type 0} (old new : PassState C) : Type 0 where
  pub onward : IsPrefix old.seen new.seen
  pub counted : new.calls ≡ old.calls

module _ {C Y : Type 0} (answer : List (ℕ × C) → C → Y) (is_entry is_full : Y → Bool) where
  -- a turn with this call and this reply takes the pass from old to new
  pub record Turned (old : PassState C) (call : C) (reply : Y) (new : PassState C) : Type 0 where
    pub same : (new.turnstile ≡ old.turnstile) × (new.seat ≡ old.seat) × (new.out_of_tickets
        ≡ old.out_of_tickets)
    pub legal : IsLegal new.turnstile.seats new.turnstile.limit new.seen
    pub own : calls_of new.seat new.seen ≡ new.calls
    pub entered : is_entry reply ≡ true → Enters answer old call reply new
    pub refused : is_entry reply ≡ false → Sees old new
    pub full : is_full reply ≡ true → (is_entry reply ≡ false) × (length new.seen ≡ new.turnstile.limit)

-- the history that has all calls of these passes, and no others
pub record IsHistoryOf {C : Type 0} (turnstile : TurnstileState) (passes : List (PassState C))
    (history : List (ℕ × C)) : Type 0 where
  pub legal : IsLegal turnstile.seats turnstile.limit history
  pub seen : All (λ (p : PassState C). IsPrefix p.seen history) passes
  pub own : All (λ (p : PassState C). calls_of p.seat history ≡ p.calls) passes
  pub others : (seat : ℕ) → All (λ (p : PassState C). p.seat ≢ seat) passes → calls_of seat history ≡ []
