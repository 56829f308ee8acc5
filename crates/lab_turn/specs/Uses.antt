-- What the calls on a turnstile return: to open it, to take a turn at it, to close it.
use Rattle.std.specs.Prelude.{◌≡◌, ◌≢◌, ℕ, ◌↔◌, Bool, true, List, length, All, Option, Result}
use Rattle.std.specs.Prelude.{IfOk, IfErr, OnOk, OnErr, IsErr}
use Rattle.std.specs.Global.{Vec}
use Rattle.atomic_table.specs.declared.shared.Seat.{Seat}
use Rattle.lab_turn.specs.declared.fault.TurnFault.{TurnFault}
use Rattle.lab_turn.specs.declared.turnstile.OpenFault.{OpenFault}
use Rattle.lab_turn.specs.declared.turnstile.OpenFault.TheVariants as open_fault
use Rattle.lab_turn.specs.declared.turnstile.CloseFault.{CloseFault}
use Rattle.lab_turn.specs.declared.turnstile.CloseFault.TheVariants as close_fault
use Rattle.lab_turn.specs.declared.view.View.{View}
use Rattle.lab_turn.specs.History.{TurnstileState, PassState, FreshFrom, IsHistoryOf, Turned}
use Rattle.lab_turn.specs.Turns.{IsIdle, pass_of}

-- opening a turnstile over this value, with so many seats, has this result: the turnstile and a fresh pass
-- for each seat, or the value if memory ran out
pub record OpensTurnstile {J C : Type 0} (limit_of : J → ℕ) (value : J) (seats : ℕ)
    (result : Result (TurnstileState × Vec (PassState C)) (OpenFault J)) : Type 0 where
  pub turnstile : IfOk result (λ t. (t.0.seats ≡ seats) × (t.0.limit ≡ limit_of value))
  pub count : IfOk result (λ t. length t.1.items ≡ seats)
  pub passes : IfOk result (λ t. FreshFrom 0 t.0 t.1.items)
  pub own : IfOk result (λ t. All (λ (p : PassState C). p.turnstile ≡ t.0) t.1.items)
  pub err : IfErr result (λ fault. fault ≡ open_fault.OutOfMemory value)

module _ {C Y : Type 0} (answer : List (ℕ × C) → C → Y) (is_entry is_full : Y → Bool) where
  -- a turn at this turnstile with this call has this result, and takes the pass from old to new; if no ticket
  -- is left, the pass only learns that
  pub record TakesTurn (turnstile : TurnstileState) (old : PassState C) (call : C)
      (result : Result Y TurnFault) (new : PassState C) : Type 0 where
    pub same : (new.turnstile ≡ turnstile) × (new.seat ≡ old.seat)
    pub ok : IfOk result (λ reply. Turned answer is_entry is_full old call reply new)
    pub out_of_tickets : OnErr result (new ≡ record old { out_of_tickets = true })

  -- the same for the token of this seat's pass, which is idle after the turn
  pub record TokenTakesTurn {J : Type 0} (seat : ℕ) (old : Seat (Option J) (View C)) (call : C)
      (result : Result Y TurnFault) (new : Seat (Option J) (View C)) : Type 0 where
    pub same : (new.table_id ≡ old.table_id) × (seat ≡ new.me.0.seat)
    pub idle : IsIdle new.me
    pub ok : IfOk result (λ reply. Turned answer is_entry is_full (pass_of old.table_id old.me.0) call reply
        (pass_of old.table_id new.me.0))
    pub out_of_tickets : OnErr result (new.me.0 ≡ record old.me.0 { out_of_tickets = true })

-- closing this turnstile with these passes has this result: the value with the whole history; or, if a pass
-- is missing, the turnstile and the passes
pub record ClosesTurnstile {J C Y : Type 0} (entries : J → List (ℕ × C)) (limit_of : J → ℕ)
    (turnstile : TurnstileState) (passes : Vec (PassState C))
    (result : Result J (CloseFault J C Y)) : Type 0 where
  pub history : IfOk result (λ value. IsHistoryOf turnstile passes.items (entries value))
  pub limit : IfOk result (λ value. limit_of value ≡ turnstile.limit)
  pub all : OnOk result (length passes.items ≡ turnstile.seats)
  pub missing : IsErr result ↔ (length passes.items ≢ turnstile.seats)
  pub err : IfErr result (λ fault. fault ≡ close_fault.MissingPass turnstile passes)
