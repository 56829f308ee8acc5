-- What the worker did.
use Rattle.std.specs.Prelude.{◌≡◌, ℕ, ◌+◌, ◌≤◌, ◌⊎◌, true, List, [], ◌∷◌, ◌++◌, length, All}
use Rattle.std.specs.Prelude.{Option, Some, None, Result, Ok, Err}
use Rattle.lab_turn.specs.History.{PassState, TurnstileState}
use Rattle.kern_calls.specs.declared.call.Call.{Call}
use Rattle.kern_calls.specs.declared.call.Call.TheVariants.{Slice}
use Rattle.kern_calls.specs.declared.call.Reply.{Reply}
use Rattle.kern_calls.specs.declared.call.Reply.TheVariants as reply
use Rattle.kern_calls.specs.declared.fault.KernelFault.{KernelFault}
use Rattle.kern_calls.specs.declared.fault.KernelFault.TheVariants.{OutOfMemory, JournalFull}
use Rattle.kern_net.specs.declared.end.PumpEnd.{PumpEnd}
use Rattle.kern_net.specs.declared.end.PumpEnd.TheVariants as end
use Rattle.kern_net.specs.declared.worker.Progress.{Progress}
use Rattle.kern_net.specs.declared.worker.Progress.TheVariants as progress
use Rattle.kern_net.specs.Gates.{WorkerPolls, times, noes, IsOpen}
use Rattle.kern_net.specs.Calls.{LastCall, IsJournalFull}

-- a Slice at a time before 2100-01-01T00:00:01Z, in seconds since 1970
abbrev pub IsSlice : Call → Type 0
IsSlice call = (unix_seconds : ℕ) × (call ≡ Slice unix_seconds) × (unix_seconds ≤ 4102444800)

abbrev pub OneSlice : List Call → List Call → Type 0
OneSlice old new =
    (unix_seconds : ℕ) × (new ≡ old ++ Slice unix_seconds ∷ []) × (unix_seconds ≤ 4102444800)

-- what the answers to a Slice say: how it went, or how the work ends; a Slice has no others
abbrev pub progress_of : Result Reply KernelFault → Option (Result Progress PumpEnd)
progress_of (Ok reply.More) = Some (Ok progress.More)
progress_of (Ok reply.Idle) = Some (Ok progress.Idle)
progress_of (Ok reply.Ended) = Some (Ok progress.ShutDown)
progress_of (Err OutOfMemory) = Some (Err end.OutOfMemory)
progress_of (Err JournalFull) = Some (Err end.JournalFull)
progress_of _ = None

-- how many Slices were let through that the kernel didn't take, by how the work ended
abbrev pub untaken : PumpEnd → ℕ
untaken end.OutOfMemory = 1
untaken end.JournalFull = 1
untaken end.OutOfTickets = 1
untaken _ = 0

-- the last call was a Slice, and was answered that a shutdown has come
abbrev pub SawShutdown : PassState Call → Type 0
SawShutdown pass = (unix_seconds : ℕ) × LastCall pass (Slice unix_seconds) (Ok reply.Ended)

-- how a Slice that wasn't taken ends the work
abbrev pub SliceEnds : PassState Call → PassState Call → PumpEnd → Type 0
SliceEnds old new end.OutOfMemory = new.calls ≡ old.calls
SliceEnds old new end.JournalFull = (new.calls ≡ old.calls) × IsJournalFull new
SliceEnds old new end.OutOfTickets = (new.calls ≡ old.calls) × (new.out_of_tickets ≡ true)
SliceEnds old new _ = ⊥

-- Only Slices were added. `before` let them through, and this many more that weren't taken; `idle` was polled
-- at most once for each; and others were woken once for each.
pub record Sliced (old new : List Call) (a b : WorkerPolls) (short : ℕ) : Type 0 where
  pub added : List Call
  pub calls : new ≡ old ++ added
  pub slices : All IsSlice added
  pub count : b.before.yes ≡ a.before.yes + length added + short
  pub idle : times b.idle ≤ times a.idle + length added
  pub woke : b.wakes ≡ a.wakes + length added

-- The work ends as Ended if the gate has said no, once, or if it hasn't and a shutdown was seen. Else it ends
-- as a turn said, and the gate hasn't said no.
abbrev pub WorkEnds : PassState Call → WorkerPolls → PumpEnd → Type 0
WorkEnds pass polls end.Ended = (noes polls ≡ 1) ⊎ (IsOpen polls × SawShutdown pass)
WorkEnds pass polls end.OutOfMemory = IsOpen polls
WorkEnds pass polls end.JournalFull = IsOpen polls × IsJournalFull pass
WorkEnds pass polls end.OutOfTickets = IsOpen polls × (pass.out_of_tickets ≡ true)
WorkEnds pass polls _ = ⊥

-- a worker's pass, and what its gate was polled
pub record WorkerState : Type 0 where
  pub pass : PassState Call
  pub polls : WorkerPolls

-- the worker made Slices and nothing else, from one seat at this desk, to this end
pub record MakesSlices (desk : TurnstileState) (old new : WorkerState) (e : PumpEnd) : Type 0 where
  pub same : (new.pass.turnstile ≡ desk) × (new.pass.seat ≡ old.pass.seat)
  pub sliced : Sliced old.pass.calls new.pass.calls old.polls new.polls (untaken e)
  pub ends : WorkEnds new.pass new.polls e
