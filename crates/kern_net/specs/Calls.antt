-- Turns at the kernel's desk, and the answer to the last call of a pass.
use Rattle.std.specs.Prelude.{◌≡◌, ℕ, List, [], ◌∷◌, ◌++◌, length, Result}
use mathlib.Core.List.{IsPrefix}
use Rattle.lab_turn.specs.History.{PassState, Turned, calls_of}
use Rattle.kern_calls.specs.declared.call.Call.{Call}
use Rattle.kern_calls.specs.declared.call.Reply.{Reply}
use Rattle.kern_calls.specs.declared.fault.KernelFault.{KernelFault}
use Rattle.kern_core.specs.Kernels.{is_entry, is_full}
use Rattle.kern_desk.specs.Seats.{seated_answer}

-- one turn at the kernel's desk
abbrev pub TurnedBy : PassState Call → Call → Result Reply KernelFault → PassState Call → Type 0
TurnedBy old call answer new = Turned seated_answer is_entry is_full old call answer new

-- This is the last call of the pass in the history that it has seen, and this is the kernel's answer to it
-- there.
pub record LastCall (pass : PassState Call) (call : Call) (answer : Result Reply KernelFault) : Type 0 where
  pub before : List (ℕ × Call)
  pub seen : IsPrefix (before ++ (pass.seat, call) ∷ []) pass.seen
  pub last : pass.calls ≡ calls_of pass.seat before ++ call ∷ []
  pub answered : answer ≡ seated_answer before call

-- the journal has as many entries as it may
abbrev pub IsJournalFull : PassState Call → Type 0
IsJournalFull pass = length pass.seen ≡ pass.turnstile.limit
