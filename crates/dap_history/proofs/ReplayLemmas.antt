-- Slices and events that are made again.
use Rattle.std.proofs.Common.{◌≡◌, ◌≢◌, ◌∙◌, ℕ, ◌+◌, List, Bool, true, false, Option, Some, zero, suc, nat_lt}
use Rattle.std.proofs.Common.{is_some, Result, Ok, Err, length, refl, ap, sym, subst}
use Rattle.std.specs.Result.{OnOk, OnErr}
use Rattle.i80_devs.specs.Past.{panel_after}
use Rattle.i80_base.specs.declared.ports.PortOperation.{PortOperation}
use Rattle.lab_core.specs.declared.run_state.RunState.{RunState}
use Rattle.lab_core.specs.declared.run_state.RunState.TheVariants.{NoRun, Running, Stopped}
use Rattle.lab_core.specs.declared.event.Event.{Event}
use Rattle.lab_core.specs.declared.event.Event.TheVariants as event
use Rattle.lab_core.specs.declared.answer.Answer.{Answer}
use Rattle.lab_core.specs.declared.answer.Answer.TheVariants as answer
use Rattle.lab_core.specs.declared.answer.SliceOutcome.{SliceOutcome}
use Rattle.lab_core.specs.declared.answer.SliceOutcome.TheVariants.{More}
use Rattle.lab_core.specs.declared.answer.SliceOutcome.TheVariants as outcome
use Rattle.lab_core.specs.declared.fault.EventFault.{EventFault}
use Rattle.lab_core.specs.declared.fault.EventFault.TheVariants.{OutOfMemory, NotRunning}
use Rattle.lab_core.specs.Board.{Board}
use Rattle.lab_core.specs.Slices.{after_steps, left_by}
use Rattle.lab_core.specs.Events.{SlicesRun, EventResult, result_of}
use Rattle.lab_core.specs.Labs.{LabState, RepresentsBoard, AppliesTo, MatchesResult, CarriesOut}
use Rattle.lab_core.proofs.BurstLemmas.{after_more}
use Rattle.lab_core.specs.Moments.{put_back}
use Rattle.dap_history.specs.declared.input.Input.{Input}
use Rattle.dap_history.specs.declared.input.Input.TheVariants as input
use Rattle.dap_history.specs.Runs.{board_of, after_event, after_input, detached_run, RunsDetached, KeepsRest}
use Rattle.dap_history.specs.Runs.{OnlyRunChanges}
use Rattle.dap_history.proofs.RunLemmas.{press_by, steps_as, put_back-left_by}

abbrev pub Reply : Type 0
Reply = Result Answer EventFault

abbrev sliced : ℕ → List PortOperation → SliceOutcome → Reply
sliced k traffic ending = Ok (answer.Sliced k traffic ending)

abbrev refused : EventFault → Reply
refused fault = Err fault

abbrev count_in : Reply → ℕ
count_in (Ok (answer.Sliced k traffic ending)) = k
count_in other = 0

abbrev ending_in : Reply → SliceOutcome
ending_in (Ok (answer.Sliced k traffic ending)) = ending
ending_in other = More

not_refused : (k : ℕ) (traffic : List PortOperation) (ending : SliceOutcome) (fault : EventFault)
    → sliced k traffic ending ≢ refused fault
not_refused k traffic ending fault e = cc

left_by_slice : (run : RunState) (n k : ℕ) (traffic : List PortOperation) (ending : SliceOutcome)
    (b new : Board) → SlicesRun run n b (sliced k traffic ending) new → new ≡ left_by ending (after_steps k b)
left_by_slice NoRun n k traffic ending b new h = absurd (not_refused k traffic ending NotRunning h.0)
left_by_slice Stopped n k traffic ending b new h = absurd (not_refused k traffic ending NotRunning h.0)
left_by_slice Running n k traffic ending b new g =
    let same = ap ending_in g.reply_is in
    let count = ap count_in g.reply_is in
    g.board_is ∙ rw (← same, ← count) refl

-- a slice that made all its steps
pub slice_left : (old new : LabState) (n k : ℕ) (traffic : List PortOperation) (ending : SliceOutcome)
    → AppliesTo old (event.Slice n) (Ok (answer.Sliced k traffic ending)) new → k ≡ n
    → (b : Board) → RepresentsBoard old b → RepresentsBoard new (left_by ending (after_steps n b))
slice_left old new n k traffic ending applies is b represents =
    let a = applies b represents (not_refused k traffic ending OutOfMemory) in
    subst (λ x. RepresentsBoard new x)
    (left_by_slice b.run n k traffic ending b a.0 a.1 ∙ ap (λ i. left_by ending (after_steps i b)) is) a.2

-- after all its steps, the run goes on
pub goes_on_after : (new : LabState) (n : ℕ) (resumed : Option ℕ) (was now : Board)
    → RepresentsBoard new (after_steps n (detached_run resumed was now))
    → RunsDetached (after_steps n was) now new
goes_on_after new n resumed was now represents =
    (resumed, subst (λ x. RepresentsBoard new x) (steps_as n resumed was now) represents)

-- or is put back to where it is
pub put_back_after : (new : LabState) (n : ℕ) (ending : SliceOutcome) (resumed : Option ℕ) (was now : Board)
    → RepresentsBoard new (put_back (left_by ending (after_steps n (detached_run resumed was now)))
    (left_by ending (after_steps n (detached_run resumed was now))))
    → RunsDetached (after_steps n was) now new
put_back_after new n ending resumed was now represents =
    let there = after_steps n was in (
      Some (length there.trace),
      subst (λ x. RepresentsBoard new x)
          (ap (λ b. put_back (left_by ending b) (left_by ending b)) (steps_as n resumed was now)
          ∙ put_back-left_by ending resumed there now) represents,
    )

-- steps after steps
pub more_steps : (new : LabState) (was now : Board) (made n total : ℕ) → n + made ≡ total
    → RunsDetached (after_steps n (after_steps made was)) now new
    → RunsDetached (after_steps total was) now new
more_steps new was now made n total is runs =
    subst (λ b. RunsDetached b now new)
    (sym (after_more n made was) ∙ ap (λ i. after_steps i was) is) runs

-- ---- an event

by_result : (r : EventResult) (b : Board) (reply : Reply) (new : LabState) → MatchesResult b r reply new
    → RepresentsBoard new (board_of b r)
by_result (Ok (a, b')) b reply new matches = matches.1
by_result (Err fault) b reply new matches = matches.1

pub event_left : (e : Event) (old new : LabState) (reply : Reply) → CarriesOut (result_of e) old reply new
    → reply ≢ Err OutOfMemory → (b : Board) → RepresentsBoard old b → RepresentsBoard new (after_event e b)
event_left e old new reply carries other b represents =
    by_result (result_of e b) b reply new (carries b represents other)

-- ---- all but the run is as before

abbrev pub SameRest : Board → Board → Type 0
SameRest b b' = (b.loads ≡ b'.loads) × (b.symbols ≡ b'.symbols) × (b.sources ≡ b'.sources)
    × (b.breakpoints ≡ b'.breakpoints)

pub keeps_rest : (lab : LabState) (now b : Board) → RepresentsBoard lab now → SameRest now b → KeepsRest b lab
keeps_rest lab now b represents same = record {
  now = now;
  represents = represents;
  loads = same.0;
  symbols = same.1;
  sources = same.2;
  breakpoints = same.3;
}

pub unchanged : (old new : LabState) → new ≡ old → OnlyRunChanges old new
unchanged old new same =
    λ b represents.
    keeps_rest new b b (subst (λ x. RepresentsBoard x b) (sym same) represents) (refl, refl, refl, refl)

pub in_turn : (old mid new : LabState) → OnlyRunChanges old mid → OnlyRunChanges mid new
    → OnlyRunChanges old new
in_turn old mid new first second =
    λ b represents.
    let x = first b represents in
    let y = second x.now x.represents in
    record {
      now = y.now;
      represents = y.represents;
      loads = y.loads ∙ x.loads;
      symbols = y.symbols ∙ x.symbols;
      sources = y.sources ∙ x.sources;
      breakpoints = y.breakpoints ∙ x.breakpoints;
    }

pub rest_then : (mid new : LabState) (now : Board) (x : KeepsRest now mid) → KeepsRest x.now new
    → KeepsRest now new
rest_then mid new now x y = record {
  now = y.now;
  represents = y.represents;
  loads = y.loads ∙ x.loads;
  symbols = y.symbols ∙ x.symbols;
  sources = y.sources ∙ x.sources;
  breakpoints = y.breakpoints ∙ x.breakpoints;
}

pub rest_on : (mid new : LabState) (now : Board) → KeepsRest now mid → OnlyRunChanges mid new
    → KeepsRest now new
rest_on mid new now x changes = rest_then mid new now x (changes x.now x.represents)

steps_keep : (k : ℕ) (b : Board) → SameRest (after_steps k b) b
steps_keep zero b = (refl, refl, refl, refl)
steps_keep (suc k) b = steps_keep k b

slice_keeps : (ending : SliceOutcome) (k : ℕ) (b : Board) → SameRest (left_by ending (after_steps k b)) b
slice_keeps outcome.More k b = steps_keep k b
slice_keeps outcome.Waiting k b = steps_keep k b
slice_keeps (outcome.Stop why) k b = steps_keep k b
slice_keeps (outcome.End how) k b = steps_keep k b

pub run_keeps : (run : RunState) (n : ℕ) (b new : Board) (reply : Reply) → SlicesRun run n b reply new
    → SameRest new b
run_keeps NoRun n b new reply h = subst (λ x. SameRest x b) (sym h.1) (refl, refl, refl, refl)
run_keeps Stopped n b new reply h = subst (λ x. SameRest x b) (sym h.1) (refl, refl, refl, refl)
run_keeps Running n b new reply g = subst (λ x. SameRest x b) (sym g.board_is) (slice_keeps g.ending g.k b)

pub slice_changes : (old new : LabState) (n : ℕ) (reply : Reply) → AppliesTo old (event.Slice n) reply new
    → OnErr reply (new ≡ old) → OnlyRunChanges old new
slice_changes old new n (Err fault) applies same = unchanged old new same
slice_changes old new n (Ok a) applies same =
    λ b represents.
    let x = applies b represents (λ e. cc) in
    keeps_rest new x.0 b x.2 (run_keeps b.run n b x.0 (Ok a) x.1)

press_keeps : (far latched : Bool) (n : ℕ) (b : Board) → SameRest (board_of b (press_by far latched n b)) b
press_keeps true latched n b = (refl, refl, refl, refl)
press_keeps false true n b = (refl, refl, refl, refl)
press_keeps false false n b = (refl, refl, refl, refl)

pub input_keeps : (i : Input) (b : Board) → SameRest (after_input i b) b
input_keeps (input.Typed bytes) b = (refl, refl, refl, refl)
input_keeps (input.Switches byte) b = (refl, refl, refl, refl)
input_keeps (input.Press n) b = press_keeps (nat_lt 7 n) (is_some (panel_after b.past).latched) n b
input_keeps (input.Registers registers) b = (refl, refl, refl, refl)
input_keeps (input.Write address bytes) b = (refl, refl, refl, refl)

-- an input that was made, or wasn't for want of memory
pub input_changes : {E : Type 0} (i : Input) (old new : LabState) (result : Result (Unit {0}) E)
    → ((b : Board) → RepresentsBoard old b → OnOk result (RepresentsBoard new (after_input i b)))
    → OnErr result (new ≡ old) → OnlyRunChanges old new
input_changes i old new (Err fault) made same = unchanged old new same
input_changes i old new (Ok done) made same =
    λ b represents. keeps_rest new (after_input i b) b (made b represents) (input_keeps i b)

pub put_back_changes : (old new : LabState)
    → ((b : Board) → RepresentsBoard old b → RepresentsBoard new (put_back b b)) → OnlyRunChanges old new
put_back_changes old new put =
    λ b represents. keeps_rest new (put_back b b) b (put b represents) (refl, refl, refl, refl)

-- after a run was put back to another board's
pub rest_of_put_back : (mid new : LabState) (was now : Board) → RepresentsBoard mid (put_back was now)
    → OnlyRunChanges mid new → KeepsRest now new
rest_of_put_back mid new was now represents changes =
    let x = changes (put_back was now) represents in
    keeps_rest new x.now now x.represents (x.loads, x.symbols, x.sources, x.breakpoints)
