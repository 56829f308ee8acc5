-- What follows from the board's answers to the events of executions.
use Rattle.std.proofs.Common.{◌≡◌, ◌≢◌, ℕ, Result, Ok, Err, sym, ap, if◌then◌else◌}
use Rattle.lab_core.specs.declared.run_state.RunState.{RunState}
use Rattle.lab_core.specs.declared.run_state.RunState.TheVariants.{NoRun, Running, Stopped}
use Rattle.lab_core.specs.declared.event.Event.{Event}
use Rattle.lab_core.specs.declared.event.Event.TheVariants as event
use Rattle.lab_core.specs.declared.answer.Answer.{Answer}
use Rattle.lab_core.specs.declared.answer.Answer.TheVariants as answer
use Rattle.lab_core.specs.declared.fault.EventFault.{EventFault}
use Rattle.lab_core.specs.declared.fault.EventFault.TheVariants.{OutOfMemory}
use Rattle.lab_core.specs.Board.{Board}
use Rattle.lab_core.specs.Events.{EventResult, after_start, after_end, without_run, with_run, result_of}
use Rattle.lab_core.specs.Memory.{MayLackMemory}
use Rattle.lab_core.specs.Labs.{LabState, RepresentsBoard, MatchesResult, CarriesOut}
use Rattle.kern_post.specs.declared.content.Ending.TheVariants.{Failed}
use Rattle.kern_exec.specs.declared.loading.Loading.{Loading}
use Rattle.kern_exec.specs.declared.loading.Loading.TheVariants.{Ends}
use Rattle.kern_exec.specs.Boards.{cause_of, loading_by, loading_of, board_after, end_run_if_any, is_run}

abbrev pub Answered : Type 0
Answered = Result Answer EventFault

abbrev pub ok : Answer → Answered
ok a = Ok a

abbrev pub err : EventFault → Answered
err f = Err f

apart : (a : Answer) (f : EventFault) → ok a ≢ err f
apart a f e = cc

answer_or : Answer → Answered → Answer
answer_or a (Ok b) = b
answer_or a (Err f) = a

fault_or : EventFault → Answered → EventFault
fault_or f (Ok b) = f
fault_or f (Err g) = g

same_answer : (a a' : Answer) → ok a ≡ ok a' → a ≡ a'
unfolding answer_or
same_answer a a' e = ap (answer_or a) e

same_fault : (f f' : EventFault) → err f ≡ err f' → f ≡ f'
unfolding fault_or
same_fault f f' e = ap (fault_or f) e

-- ---- the beginning and the end of a run

started_by : (run : RunState) (b : Board) (address : ℕ) (r : Answered) (new : LabState) → run ≡ NoRun
    → MatchesResult b (without_run run (Ok (answer.Started, after_start address b))) r new
    → RepresentsBoard new (after_start address b)
started_by NoRun b address r new is did = did.1
started_by Running b address r new is did = absurd cc
started_by Stopped b address r new is did = absurd cc

pub started_so : (old new : LabState) (address : ℕ) (r : Answered)
    → CarriesOut (result_of (event.Start address)) old r new
    → (r ≡ err OutOfMemory → MayLackMemory (event.Start address) old)
    → (b : Board) → RepresentsBoard old b → b.run ≡ NoRun → RepresentsBoard new (after_start address b)
started_so old new address r does lacks b represents none =
    started_by b.run b address r new none (does b represents (λ e. lacks e b represents))

interrupted_by : (run : RunState) (b : Board) (r : Answered) (new : LabState)
    → MatchesResult b (with_run run (Ok (answer.Interrupted, after_end b))) r new
    → RepresentsBoard new (if is_run run then after_end b else b)
interrupted_by NoRun b r new did = did.1
interrupted_by Running b r new did = did.1
interrupted_by Stopped b r new did = did.1

pub interrupted_so : (old new : LabState) (r : Answered) → CarriesOut (result_of event.Interrupt) old r new
    → (r ≡ err OutOfMemory → MayLackMemory event.Interrupt old)
    → (b : Board) → RepresentsBoard old b → RepresentsBoard new (end_run_if_any b)
interrupted_so old new r does lacks b represents =
    interrupted_by b.run b r new (does b represents (λ e. lacks e b represents))

-- ---- a cell

loaded_by : (g : EventResult) (b : Board) (a : Answer) (new : LabState) → MatchesResult b g (ok a) new
    → (loading_by a ≡ loading_of g) × RepresentsBoard new (board_after b g)
loaded_by (Ok (a', b')) b a new did = (ap loading_by (same_answer a a' did.0), did.1)
loaded_by (Err f) b a new did = absurd (apart a f did.0)

pub loaded_so : (old new : LabState) (e : Event) (a : Answer) → CarriesOut (result_of e) old (ok a) new
    → (b : Board) → RepresentsBoard old b
    → (loading_by a ≡ loading_of (result_of e b)) × RepresentsBoard new (board_after b (result_of e b))
loaded_so old new e a does b represents =
    loaded_by (result_of e b) b a new (does b represents (apart a OutOfMemory))

abbrev pub failed : EventFault → Loading
failed f = Ends (Failed (cause_of f))

refused_by : (g : EventResult) (b : Board) (f : EventFault) (new : LabState) → MatchesResult b g (err f) new
    → (failed f ≡ loading_of g) × RepresentsBoard new (board_after b g)
refused_by (Ok (a, b')) b f new did = absurd (apart a f (sym did.0))
refused_by (Err f') b f new did = (ap failed (same_fault f f' did.0), did.1)

pub refused_so : (old new : LabState) (e : Event) (f : EventFault) → CarriesOut (result_of e) old (err f) new
    → f ≢ OutOfMemory
    → (b : Board) → RepresentsBoard old b
    → (failed f ≡ loading_of (result_of e b)) × RepresentsBoard new (board_after b (result_of e b))
refused_so old new e f does other b represents =
    refused_by (result_of e b) b f new (does b represents (λ e. other (same_fault f OutOfMemory e)))
