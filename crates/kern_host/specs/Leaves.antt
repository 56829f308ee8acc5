-- The Leave of a connection.
use Rattle.std.specs.Prelude.{◌≡◌, ℕ, true, List, [], ◌∷◌, ◌++◌, Option, Some, None, Result, Ok, Err}
use mathlib.Core.List.{IsPrefix}
use Rattle.lab_turn.specs.History.{PassState, Sees}
use Rattle.kern_calls.specs.declared.call.Call.{Call}
use Rattle.kern_calls.specs.declared.call.Call.TheVariants.{Leave}
use Rattle.kern_calls.specs.declared.call.Reply.{Reply}
use Rattle.kern_calls.specs.declared.fault.KernelFault.{KernelFault}
use Rattle.kern_calls.specs.declared.fault.KernelFault.TheVariants as fault
use Rattle.kern_net.specs.Calls.{IsJournalFull}
use Rattle.kern_host.specs.declared.end.LeaveFault.{LeaveFault}
use Rattle.kern_host.specs.declared.end.LeaveFault.TheVariants.{JournalFull, OutOfTickets}

-- one Leave, or none
abbrev pub leaving : ℕ → Result (Unit {0}) LeaveFault → List Call
leaving connection (Ok _) = Leave connection ∷ []
leaving connection (Err fault) = []

-- how a Leave ended: it was made, unless memory ran out or the journal was full
abbrev pub left_by : Result Reply KernelFault → Option (Result (Unit {0}) LeaveFault)
left_by (Err fault.OutOfMemory) = None
left_by (Err fault.JournalFull) = Some (Err JournalFull)
left_by _ = Some (Ok tt)

-- why there was none, as the pass shows it
abbrev pub KeepsFrom : Result (Unit {0}) LeaveFault → PassState Call → Type 0
KeepsFrom (Ok _) pass = Unit {0}
KeepsFrom (Err JournalFull) pass = IsJournalFull pass
KeepsFrom (Err OutOfTickets) pass = pass.out_of_tickets ≡ true

-- the Leave was made, or the kernel takes no more calls
pub record HasLeft (connection : ℕ) (old new : PassState Call) (left : Result
    (Unit {0}) LeaveFault) : Type 0 where
  pub onward : IsPrefix old.seen new.seen
  pub calls : new.calls ≡ old.calls ++ leaving connection left
  pub cause : KeepsFrom left new

-- the same of one attempt, which may run out of memory
abbrev pub TriedToLeave : ℕ → PassState Call → PassState Call → Option (Result (Unit {0}) LeaveFault) → Type 0
TriedToLeave connection old new (Some left) = HasLeft connection old new left
TriedToLeave connection old new None = Sees old new
