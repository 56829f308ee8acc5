-- The reply of a lab to an event, by the function.
use Rattle.std.proofs.Common.{◌≡◌, ◌≢◌, ℕ, zero, suc, ◌≤◌, length, Result, Ok, Err, IfOk, subst, arith}
use Rattle.std.proofs.Common.{length-append, Option, Some, None, refl}
use Rattle.i80_base.specs.declared.ports.PortOperation.{PortOperation}
use Rattle.i80_exec.specs.Step.{operation_list}
use Rattle.lab_core.specs.declared.run_state.RunState.{RunState}
use Rattle.lab_core.specs.declared.run_state.RunState.TheVariants.{NoRun, Running, Stopped}
use Rattle.lab_core.specs.declared.event.Event.{Event}
use Rattle.lab_core.specs.declared.event.Event.TheVariants as event
use Rattle.lab_core.specs.declared.answer.Answer.{Answer}
use Rattle.lab_core.specs.declared.fault.EventFault.{EventFault}
use Rattle.lab_core.specs.declared.fault.EventFault.TheVariants.{OutOfMemory}
use Rattle.lab_core.specs.Board.{Board, next_change}
use Rattle.lab_core.specs.Slices.{traffic_of, after_steps}
use Rattle.lab_core.specs.Events.{EventResult, Gives, while_running, result_of}
use Rattle.lab_core.specs.SliceEnds.{slice_from, sliced_at, traffic_in}
use Rattle.lab_core.specs.Labs.{LabState, RepresentsBoard, AppliesTo, MatchesResult, CarriesOut}
use Rattle.lab_core.proofs.LawLemmas.{applies-given, given-applies, slice_within}

did : (b new : Board) (g : EventResult) (reply : Result Answer EventFault) (lab : LabState)
    → Gives b g reply new
    → RepresentsBoard lab new → MatchesResult b g reply lab
did b new (Ok (a, b')) reply lab h represents = (h.0, subst (RepresentsBoard lab) h.1 represents)
did b new (Err fault) reply lab h represents = (h.0, subst (RepresentsBoard lab) h.1 represents)

pub does_given : (old new : LabState) (e : Event) (reply : Result Answer EventFault)
    → AppliesTo old e reply new → CarriesOut (result_of e) old reply new
does_given old new e reply applies = λ b represents no_want.
    let a = applies b represents no_want in
    did b a.0 (result_of e b) reply new (applies-given b a.0 e reply a.1) a.2

-- and conversely
applied-by : (b : Board) (g : EventResult) (reply : Result Answer EventFault) (lab : LabState)
    → MatchesResult b g reply lab
    → (new : Board) × Gives b g reply new × RepresentsBoard lab new
applied-by b (Ok (a, b')) reply lab h = (b', (h.0, refl), h.1)
applied-by b (Err fault) reply lab h = (b, (h.0, refl), h.1)

pub applied-given : (old new : LabState) (e : Event) (reply : Result Answer EventFault)
    → CarriesOut (result_of e) old reply new → AppliesTo old e reply new
applied-given old new e reply does = λ b represents no_want.
    let a = applied-by b (result_of e b) reply new (does b represents no_want) in
    (a.0, given-applies b a.0 e reply a.1, a.2)

-- ---- a slice performs at most one port operation for each step

at_most_one : (o : Option PortOperation) → length (operation_list o) ≤ 1
at_most_one None = omega arith
at_most_one (Some p) = omega arith

pub traffic_within : (k : ℕ) (b : Board) → length (traffic_of k b) ≤ k
traffic_within zero b = omega arith
traffic_within (suc k) b =
    let so_far = traffic_within k b in
    let operation = (next_change (after_steps k b)).operation in
    let one = at_most_one operation in
    omega (arith, length-append (traffic_of k b) (operation_list operation))

pub slice_traffic_within : (n : ℕ) (b : Board) → length (traffic_of (slice_from n 0 b).0 b) ≤ n
slice_traffic_within n b = omega (arith, traffic_within (slice_from n 0 b).0 b, slice_within n b)

few_by : (run : RunState) (n : ℕ) (b : Board) (reply : Result Answer EventFault) (lab : LabState)
    → MatchesResult b (while_running run (Ok (sliced_at b (slice_from n 0 b)))) reply lab
    → IfOk reply (λ a. length (traffic_in a) ≤ n)
few_by NoRun n b reply lab h = rw h.0 tt
few_by Stopped n b reply lab h = rw h.0 tt
few_by Running n b reply lab h = rw h.0 (slice_traffic_within n b)

abbrev Answered : Type 0
Answered = Result Answer EventFault

abbrev done : Answer → Answered
done a = Ok a

no_want : (a : Answer) → done a ≢ Err OutOfMemory
no_want a e = cc

few_of : (n : ℕ) (b : Board) (old new : LabState) (reply : Result Answer EventFault) → RepresentsBoard old b
    → CarriesOut (result_of (event.Slice n)) old reply new → IfOk reply (λ a. length (traffic_in a) ≤ n)
few_of n b old new (Err fault) represents does = tt
few_of n b old new (Ok a) represents does = few_by b.run n b (Ok a) new (does b represents (no_want a))

pub few_operations : (old new : LabState) (e : Event) (reply : Result Answer EventFault)
    → AppliesTo old e reply new
    → (n : ℕ) (b : Board) → e ≡ event.Slice n → RepresentsBoard old b
    → IfOk reply (λ a. length (traffic_in a) ≤ n)
few_operations old new e reply applies n b is represents =
    few_of n b old new reply represents (subst (λ x. CarriesOut (result_of x) old reply new) is
    (does_given old new e reply applies))
