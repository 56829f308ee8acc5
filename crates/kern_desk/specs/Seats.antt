-- Entries and their seats.
use Rattle.std.specs.Prelude.{ℕ, List, map, Result}
use Rattle.kern_calls.specs.declared.call.Call.{Call}
use Rattle.kern_calls.specs.declared.call.Reply.{Reply}
use Rattle.kern_calls.specs.declared.fault.KernelFault.{KernelFault}
use Rattle.kern_core.specs.Turns.{answer_after}

-- each entry is the seat that made the call, and the call
pub record SeatedState : Type 0 where
  pub entries : List (ℕ × Call)
  pub limit : ℕ

abbrev pub calls_of : List (ℕ × Call) → List Call
calls_of entries = map (λ entry. entry.1) entries

-- the answer to a call doesn't depend on seats
abbrev pub seated_answer : List (ℕ × Call) → Call → Result Reply KernelFault
seated_answer entries call = answer_after (calls_of entries) call
