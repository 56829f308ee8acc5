-- The answers to a Join.
use Rattle.std.specs.Prelude.{◌≡◌, true, Result, Ok, Err}
use Rattle.lab_turn.specs.History.{PassState, Turned}
use Rattle.kern_calls.specs.declared.call.Call.{Call}
use Rattle.kern_calls.specs.declared.call.Reply.{Reply}
use Rattle.kern_calls.specs.declared.call.Reply.TheVariants as reply
use Rattle.kern_calls.specs.declared.fault.KernelFault.{KernelFault}
use Rattle.kern_calls.specs.declared.fault.KernelFault.TheVariants.{JournalFull}
use Rattle.kern_core.specs.Kernels.{is_entry, is_full}
use Rattle.kern_desk.specs.declared.desks.Joined.{Joined}
use Rattle.kern_desk.specs.Seats.{seated_answer}

-- a Join is answered by Joined or by a fault
abbrev pub IsJoinAnswer : Result Reply KernelFault → Type 0
IsJoinAnswer (Ok (reply.Joined connection from)) = Unit {0}
IsJoinAnswer (Ok _) = ⊥
IsJoinAnswer (Err fault) = Unit {0}

-- the call added this connection
abbrev pub IsJoined : PassState Call → Call → PassState Call → Joined → Type 0
IsJoined old call new joined =
    Turned seated_answer is_entry is_full old call (Ok (reply.Joined joined.connection joined.from)) new

-- the call was refused with this fault, or there were no more turns
pub data IsUnjoined (old : PassState Call) (call : Call) (new : PassState Call) : KernelFault → Type 0 where
  IsRefused : (fault : KernelFault) → Turned seated_answer is_entry is_full old call (Err fault) new
      → IsUnjoined old call new fault
  IsOutOfTickets : (fault : KernelFault) → fault ≡ JournalFull → new ≡ record old { out_of_tickets = true }
      → IsUnjoined old call new fault
