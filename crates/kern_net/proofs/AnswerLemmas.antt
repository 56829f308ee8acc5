-- What a Slice may be answered.
use Rattle.std.proofs.Common.{◌≡◌, ℕ, true, List, [], ◌∷◌, Option, Some, None}
use Rattle.std.proofs.Common.{Result, Ok, Err, refl, sym, subst}
use Rattle.std.specs.Option.{IsSome}
use Rattle.lab_turn.specs.History.{PassState}
use Rattle.lab_core.specs.declared.answer.SliceOutcome.{SliceOutcome}
use Rattle.lab_core.specs.declared.answer.SliceOutcome.TheVariants as outcome
use Rattle.lab_core.specs.declared.run_state.RunState.{RunState}
use Rattle.lab_core.specs.declared.run_state.RunState.TheVariants as run
use Rattle.kern_exec.specs.declared.execution.Execution.{Execution}
use Rattle.lab_core.specs.SliceEnds.{slice_end}
use Rattle.kern_calls.specs.declared.call.Call.{Call}
use Rattle.kern_calls.specs.declared.call.Call.TheVariants.{Slice}
use Rattle.kern_calls.specs.declared.call.Reply.{Reply}
use Rattle.kern_calls.specs.declared.call.Reply.TheVariants as reply
use Rattle.kern_calls.specs.declared.fault.KernelFault.{KernelFault}
use Rattle.kern_calls.specs.declared.fault.KernelFault.TheVariants as fault
use Rattle.kern_core.specs.Kernels.{is_entry}
use Rattle.kern_core.specs.States.{KernelState, Turn, turn_without_posts}
use Rattle.kern_core.specs.Slices.{running_to, by_run, by_start, loading}
use Rattle.kern_core.specs.Turns.{turn, state_after}
use Rattle.kern_desk.specs.Seats.{calls_of}
use Rattle.kern_net.specs.Calls.{TurnedBy}
use Rattle.kern_net.specs.Work.{progress_of}
use Rattle.kern_net.proofs.ChoiceLemmas.{either}

-- the turn's answer is one to a Slice
abbrev IsAnswered : Turn → Type 0
IsAnswered t = IsSome (progress_of t.answer)

run_answered : (e : ℕ × SliceOutcome) (unix_seconds : ℕ) (s : KernelState)
    → IsAnswered (running_to e unix_seconds s)
run_answered (k, outcome.More) unix_seconds s = refl
run_answered (k, outcome.Waiting) unix_seconds s = refl
run_answered (k, outcome.Stop why) unix_seconds s = refl
run_answered (k, outcome.End why) unix_seconds s = refl

load_answered : (unix_seconds : ℕ) (queue : List Execution) (s : KernelState)
    → IsAnswered (loading unix_seconds queue s)
load_answered unix_seconds [] s = refl
load_answered unix_seconds (x ∷ rest) s = refl

start_answered : (pending : Option ℕ) (unix_seconds : ℕ) (s : KernelState)
    → IsAnswered (by_start pending unix_seconds s)
start_answered None unix_seconds s = load_answered unix_seconds s.work.queue s
start_answered (Some address) unix_seconds s = refl

state_answered : (state : RunState) (unix_seconds : ℕ) (s : KernelState)
    → IsAnswered (by_run state unix_seconds s)
state_answered run.Running unix_seconds s = run_answered (slice_end s.board) unix_seconds s
state_answered run.Stopped unix_seconds s = refl
state_answered run.NoRun unix_seconds s = start_answered s.work.pending unix_seconds s

slice_answered : (unix_seconds : ℕ) (s : KernelState) → IsAnswered (turn (Slice unix_seconds) s)
unfolding turn
slice_answered unix_seconds s =
    either IsAnswered s.is_shut (turn_without_posts reply.Ended s) (by_run s.board.run unix_seconds s) refl
    (state_answered s.board.run unix_seconds s)

entry_answered : (v w : PassState Call) (unix_seconds : ℕ) (answer : Result Reply KernelFault)
    → TurnedBy v (Slice unix_seconds) answer w → is_entry answer ≡ true → IsSome (progress_of answer)
entry_answered v w unix_seconds answer t h =
    let e = t.entered h in
    let P : Result Reply KernelFault → Type 0 = λ a. IsSome (progress_of a) in
    subst P (sym e.answered) (slice_answered unix_seconds (state_after (calls_of e.before)))

pub answered : (v w : PassState Call) (unix_seconds : ℕ) (answer : Result Reply KernelFault)
    → TurnedBy v (Slice unix_seconds) answer w → IsSome (progress_of answer)
answered v w unix_seconds (Ok r) t = entry_answered v w unix_seconds (Ok r) t refl
answered v w unix_seconds (Err fault.OutOfMemory) t = refl
answered v w unix_seconds (Err fault.JournalFull) t = refl
answered v w unix_seconds (Err fault.Full) t = entry_answered v w unix_seconds (Err fault.Full) t refl
answered v w unix_seconds (Err (fault.Lagged first)) t =
    entry_answered v w unix_seconds (Err (fault.Lagged first)) t refl
answered v w unix_seconds (Err fault.NoConnection) t =
    entry_answered v w unix_seconds (Err fault.NoConnection) t refl
