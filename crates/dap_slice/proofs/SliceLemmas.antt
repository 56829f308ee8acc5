-- Slices that end where they come to a breakpoint.
use Rattle.std.proofs.Common.{◌≡◌, ◌≢◌, ◌∙◌, ◌≤◌, ◌<◌, ◌+◌, ◌-◌, ℕ, zero, suc, List, []}
use Rattle.std.proofs.Common.{Bool, true, false, ◌&&◌, ◌||◌, if◌then◌else◌, Option, Some, None, is_some}
use Rattle.std.proofs.Common.{Result, Ok, Err, refl, sym, ap, subst, arith, length, take, drop, ◌++◌}
use Rattle.std.proofs.Common.{◌∷◌, map, nat_lt, is_none}
use Rattle.std.specs.List.{list_any}
use Rattle.std.specs.Result.{IfOk, OnErr}
use Rattle.std.specs.declared.alloc.AllocError.{AllocError}
use Rattle.i80_base.specs.declared.ports.PortOperation.{PortOperation}
use Rattle.lab_core.specs.declared.run_state.RunState.{RunState}
use Rattle.lab_core.specs.declared.run_state.RunState.TheVariants.{NoRun, Running, Stopped}
use Rattle.lab_core.specs.declared.event.Event.TheVariants.{Slice}
use Rattle.lab_core.specs.declared.answer.Answer.{Answer}
use Rattle.lab_core.specs.declared.answer.Answer.TheVariants.{Sliced}
use Rattle.lab_core.specs.declared.answer.SliceOutcome.{SliceOutcome}
use Rattle.lab_core.specs.declared.answer.SliceOutcome.TheVariants as outcome
use Rattle.lab_core.specs.declared.answer.Stop.TheVariants as stop
use Rattle.lab_core.specs.declared.fault.EventFault.{EventFault}
use Rattle.lab_core.specs.declared.fault.EventFault.TheVariants.{OutOfMemory, NotRunning}
use Rattle.lab_core.specs.Board.{Board}
use Rattle.lab_core.specs.Slices.{after_steps, traffic_of, left_by}
use Rattle.lab_core.specs.SliceEnds.{slice_from, sliced_at, traffic_in as answer_traffic}
use Rattle.lab_core.specs.Events.{Gives, while_running}
use Rattle.lab_core.specs.Labs.{LabState, RepresentsBoard}
use Rattle.lab_shown.specs.declared.place.PlaceChange.{PlaceChange}
use Rattle.lab_core.specs.declared.marks.Watch.{Watch}
use Rattle.lab_core.specs.Marks.{MarksState, SlicesTo, first_after, first_mark, marked_at, Leaves}
use Rattle.lab_core.proofs.LawLemmas.{applies-given, slice_within}
use Rattle.lab_core.proofs.MarkLemmas.{first-within, first-before}
use Rattle.dap_slice.specs.declared.conditions.ConditionalBreakpoint.{ConditionalBreakpoint}
use Rattle.dap_slice.specs.declared.conditions.Trigger.{Trigger}
use Rattle.dap_slice.specs.declared.conditions.Trigger.TheVariants as trigger
use Rattle.dap_slice.specs.Hits.{is_wanted}
use Rattle.dap_slice.specs.Conditions.{is_any_at, holds_on, stops_on, is_any_met, watched_places}
use Rattle.dap_slice.specs.Conditions.{is_looked_for, is_any_looked_for, IsMarked}
use Rattle.dap_slice.specs.Changes.{is_any_changed, first_change, change_at, watch_between, IsAfterStep}
use Rattle.dap_slice.specs.Counts.{after_hits, points_after}
use Rattle.dap_slice.specs.Stops.{ids_told}
use Rattle.dap_slice.specs.SliceEnds.{is_at_after, first_arrival, outcome_at, stopped_if_met, change_after}
use Rattle.dap_slice.specs.SliceEnds.{ids_after, slice_end_within, after_end, after_slice_within}
use Rattle.dap_slice.specs.SliceEnds.{IsBoardSlice, IsSliceEnd, IsSliceWithin, IsStepChange, StopsAtChange}
use Rattle.dap_slice.specs.declared.slice.BoardSlice.{BoardSlice}
use Rattle.dap_slice.specs.declared.slice.SliceResult.{SliceResult}
use Rattle.dap_slice.proofs.CountLemmas.{not_counted, Counts, list_after}
use Rattle.dap_slice.proofs.ChangeLemmas.{Watches, past_line, marked_there, marked_still, after_step}
use Rattle.dap_slice.proofs.ChangeLemmas.{first_is, first_of}

abbrev pub Points : Type 0
Points = List ConditionalBreakpoint

abbrev pub Answered : Type 0
Answered = Result Answer EventFault

abbrev ok : Answer → Answered
ok a = Ok a

abbrev refused : EventFault → Answered
refused fault = Err fault

-- ---- the first arrival

first-same : (f g : ℕ → Bool) → ((i : ℕ) → f i ≡ g i) → (more k : ℕ)
    → first_after f more k ≡ first_after g more k
unfolding first_after
first-same f g same zero k = refl
first-same f g same (suc more) k = rw (same (k + 1), first-same f g same more (k + 1)) refl

first-none : (test : ℕ → Bool) → ((i : ℕ) → test i ≡ false) → (more k : ℕ)
    → first_after test more k ≡ k + more
unfolding first_after
first-none test none zero k = omega arith
first-none test none (suc more) k = rw (none (k + 1), first-none test none more (k + 1)) (omega arith)

-- the first mark is at the first breakpoint
pub arrives : (points : Points) (marks : MarksState) (n : ℕ) (b : Board) → IsMarked points marks
    → first_mark marks n b ≡ first_arrival points n b
arrives points marks n b is =
    first-same (marked_at marks b) (is_at_after points b) (λ j. marked_there points marks b j is) n 0

-- where none is looked for there is no arrival
pub none_at : (points : Points) (address : ℕ) → is_any_looked_for points ≡ false
    → is_any_at points address ≡ false
none_at [] address plain = refl
none_at (p ∷ ps) address plain = by p.trigger refl plain (none_at ps address)
  where
    by : (t : Trigger) → p.trigger ≡ t → (is_looked_for t || is_any_looked_for ps) ≡ false
        → (is_any_looked_for ps ≡ false → is_any_at ps address ≡ false) → is_any_at (p ∷ ps) address ≡ false
    by (trigger.Address a) is plain rest = absurd cc
    by (trigger.Change place) is plain rest = absurd cc
    by (trigger.Line line) is plain rest = rw is (rest plain)

pub none_changed : (points : Points) (was b : Board) → is_any_looked_for points ≡ false
    → is_any_changed points was b ≡ false
none_changed [] was b plain = refl
none_changed (p ∷ ps) was b plain = by p.trigger refl plain (none_changed ps was b)
  where
    by : (t : Trigger) → p.trigger ≡ t → (is_looked_for t || is_any_looked_for ps) ≡ false
        → (is_any_looked_for ps ≡ false → is_any_changed ps was b ≡ false)
        → is_any_changed (p ∷ ps) was b ≡ false
    by (trigger.Address a) is plain rest = absurd cc
    by (trigger.Change place) is plain rest = absurd cc
    by (trigger.Line line) is plain rest = rw is (rest plain)

pub none_watched : (points : Points) → is_any_looked_for points ≡ false → watched_places points ≡ []
none_watched [] plain = refl
none_watched (p ∷ ps) plain = by p.trigger refl plain (none_watched ps)
  where
    by : (t : Trigger) → p.trigger ≡ t → (is_looked_for t || is_any_looked_for ps) ≡ false
        → (is_any_looked_for ps ≡ false → watched_places ps ≡ []) → watched_places (p ∷ ps) ≡ []
    by (trigger.Address a) is plain rest = absurd cc
    by (trigger.Change place) is plain rest = absurd cc
    by (trigger.Line line) is plain rest = rw is (rest plain)

none-here : (points : Points) (b : Board) (j : ℕ) → is_any_looked_for points ≡ false
    → is_at_after points b j ≡ false
none-here points b j plain =
    rw (
      none_at points (after_steps j b).machine.regs.pc plain,
      none_changed points (after_steps (j - 1) b) (after_steps j b) plain,
    ) refl

pub none_arrives : (points : Points) (n : ℕ) (b : Board) → is_any_looked_for points ≡ false
    → first_arrival points n b ≡ n
none_arrives points n b plain =
    let all = first-none (is_at_after points b) (λ j. none-here points b j plain) n 0 in omega (arith, all)

-- nothing is counted
pub plain_after : (points : Points) (k : ℕ) (b : Board) → is_any_looked_for points ≡ false
    → points_after points k b ≡ points
plain_after points k b plain = by (nat_lt 0 k)
  where
    was : Board
    was = after_steps (k - 1) b

    now : Board
    now = after_steps k b

    by : (some : Bool) → (if some then after_hits points was now else points) ≡ points
    by true =
        not_counted was now points points (none_at points now.machine.regs.pc plain)
        (none_changed points was now plain)
    by false = refl

-- ---- a slice up to it

-- the run goes on after its steps
pub run_after : (k : ℕ) (b : Board) → (after_steps k b).run ≡ b.run
run_after zero b = refl
run_after (suc k) b = run_after k b

abbrev sliced : ℕ → List PortOperation → SliceOutcome → Answered
sliced k traffic ending = Ok (Sliced k traffic ending)

-- the board's slice that ends at the first breakpoint, if not earlier
pub record IsArrival (points : Points) (n : ℕ) (b : Board) (k : ℕ) (traffic : List PortOperation)
    (ending : SliceOutcome) (new : LabState) : Type 0 where
  pub end_is : slice_from (first_arrival points n b) 0 b ≡ (k, ending)
  pub traffic_is : traffic ≡ traffic_of k b
  pub represents : RepresentsBoard new (left_by ending (after_steps k b))

abbrev count_in : Answered → ℕ
count_in (Ok (Sliced k traffic ending)) = k
count_in other = 0

abbrev traffic_in : Answered → List PortOperation
traffic_in (Ok (Sliced k traffic ending)) = traffic
traffic_in other = []

abbrev ending_in : Answered → SliceOutcome
ending_in (Ok (Sliced k traffic ending)) = ending
ending_in other = outcome.More

not_refused : (a : Answer) (fault : EventFault) → ok a ≢ refused fault
not_refused a fault e = cc

of-gives : (points : Points) (n : ℕ) (b b' : Board) (k : ℕ) (traffic : List PortOperation)
    (ending : SliceOutcome) (new : LabState) (end : ℕ × SliceOutcome)
    → slice_from (first_arrival points n b) 0 b ≡ end → sliced k traffic ending ≡ Ok (sliced_at b end).0
    → b' ≡ (sliced_at b end).1 → RepresentsBoard new b' → IsArrival points n b k traffic ending new
of-gives points n b b' k traffic ending new (k', ending') end_is is board_is represents =
    let count : k ≡ k' = ap count_in is in
    let how : ending ≡ ending' = ap ending_in is in
    let R : Board → Type 0 = λ x. RepresentsBoard new x in
    record {
      end_is = rw (count, how) end_is;
      traffic_is = rw count (ap traffic_in is);
      represents = rw (count, how) (subst R board_is represents);
    }

by-run : (run : RunState) (b b' : Board) (end : ℕ × SliceOutcome) (reply : Answered) → run ≡ Running
    → Gives b (while_running run (Ok (sliced_at b end))) reply b'
    → (reply ≡ Ok (sliced_at b end).0) × (b' ≡ (sliced_at b end).1)
by-run Running b b' end reply is gives = gives
by-run NoRun b b' end reply is gives = absurd cc
by-run Stopped b b' end reply is gives = absurd cc

pub arrived : (points : Points) (marks : MarksState) (n : ℕ) (old new : LabState) (k : ℕ)
    (traffic : List PortOperation) (ending : SliceOutcome) → IsMarked points marks
    → SlicesTo marks n old (sliced k traffic ending) new
    → (b : Board) → RepresentsBoard old b → b.run ≡ Running → IsArrival points n b k traffic ending new
arrived points marks n old new k traffic ending is slices b represents running =
    let a = slices b represents (not_refused (Sliced k traffic ending) OutOfMemory) in
    let n' = first_mark marks n b in
    let gives =
    by-run b.run b a.0 (slice_from n' 0 b) (sliced k traffic ending) running
    (applies-given b a.0 (Slice n') (sliced k traffic ending) a.1) in
    of-gives points n b a.0 k traffic ending new (slice_from n' 0 b)
    (ap (λ m. slice_from m 0 b) (sym (arrives points marks n b is))) gives.0 gives.1 a.2

pub whole : (points : Points) (n : ℕ) (b : Board) (s : SliceResult) (ending : SliceOutcome)
    (mid new : LabState) → IsArrival points n b s.executed s.traffic ending mid
    → s.outcome ≡ (stopped_if_met points b (s.executed, ending)).1
    → s.change ≡ change_after points (s.executed, s.outcome) b
    → s.ids ≡ ids_after points (s.executed, s.outcome) b
    → RepresentsBoard new (left_by s.outcome (after_steps s.executed b))
    → IsSliceWithin points n b s × RepresentsBoard new (after_slice_within points n b)
whole points n b s ending mid new came how told ids represents =
    let C : SliceOutcome → Type 0 = λ o. s.change ≡ change_after points (s.executed, o) b in
    let I : SliceOutcome → Type 0 = λ o. s.ids ≡ ids_after points (s.executed, o) b in
    let E : ℕ × SliceOutcome → Type 0 =
    λ end. IsSliceEnd points (stopped_if_met points b end) b s
    × RepresentsBoard new (after_end (stopped_if_met points b end) b) in
    subst E (sym came.end_is) (
      record {
        executed = refl;
        traffic = came.traffic_is;
        outcome = how;
        change = subst C how told;
        ids = subst I how ids;
      },
      subst (λ o. RepresentsBoard new (left_by o (after_steps s.executed b))) how represents,
    )

-- ---- laws

none-met : (points : Points) (b : Board) → is_any_looked_for points ≡ false
    → list_any (stops_on b) points ≡ false
none-met [] b plain = refl
none-met (p ∷ ps) b plain = by p.trigger refl plain (none-met ps b)
  where
    quiet : (x y z more : Bool) → more ≡ false → (x && (y && (false && z)) || more) ≡ false
    quiet true true z more none = none
    quiet true false z more none = none
    quiet false y z more none = none

    by : (t : Trigger) → p.trigger ≡ t → (is_looked_for t || is_any_looked_for ps) ≡ false
        → (is_any_looked_for ps ≡ false → list_any (stops_on b) ps ≡ false)
        → list_any (stops_on b) (p ∷ ps) ≡ false
    by (trigger.Address a) is plain rest = absurd cc
    by (trigger.Change place) is plain rest = absurd cc
    by (trigger.Line line) is plain rest =
        rw is (quiet (is_none p.log) (is_wanted p.hits) (holds_on b p.condition) _ (rest plain))

none-first : (points : Points) (was b : Board) → is_any_looked_for points ≡ false
    → first_change points was b ≡ None
none-first [] was b plain = refl
none-first (p ∷ ps) was b plain = by p.trigger refl plain (none-first ps was b)
  where
    by : (t : Trigger) → p.trigger ≡ t → (is_looked_for t || is_any_looked_for ps) ≡ false
        → (is_any_looked_for ps ≡ false → first_change ps was b ≡ None)
        → first_change (p ∷ ps) was b ≡ None
    by (trigger.Address a) is plain rest = absurd cc
    by (trigger.Change place) is plain rest = absurd cc
    by (trigger.Line line) is plain rest = (past_line p ps line was b is).0 ∙ rest plain

not-met : (points : Points) (was b : Board) → is_any_looked_for points ≡ false
    → outcome_at points was b ≡ outcome.More
not-met points was b plain =
    rw (none-met points b plain, none-first points was b plain) (by b.is_attached)
  where
    no_change : Option PlaceChange
    no_change = None

    by : (is : Bool) → (if is && false || is_some (if is then no_change else None)
        then outcome.Stop stop.Breakpoint else outcome.More) ≡ outcome.More
    by true = refl
    by false = refl

plain : (points : Points) (b : Board) (end : ℕ × SliceOutcome) → is_any_looked_for points ≡ false
    → stopped_if_met points b end ≡ end
plain points b (k, outcome.More) none =
    rw (plain_after points k b none)
    (ap (λ e. (k, e)) (not-met points (after_steps (k - 1) b) (after_steps k b) none))
plain points b (k, outcome.Waiting) none = refl
plain points b (k, outcome.Stop s) none = refl
plain points b (k, outcome.End e) none = refl

-- where none is looked for no change is told
pub untold : (points : Points) (end : ℕ × SliceOutcome) (b : Board) → is_any_looked_for points ≡ false
    → change_after points end b ≡ None
untold points (k, outcome.More) b none = refl
untold points (k, outcome.Waiting) b none = refl
untold points (k, outcome.Stop s) b none =
    rw (plain_after points k b none) (none-first points (after_steps (k - 1) b) (after_steps k b) none)
untold points (k, outcome.End e) b none = refl

pub none_plain : (points : Points) (n : ℕ) (b : Board) → is_any_looked_for points ≡ false
    → slice_end_within points n b ≡ slice_from n 0 b
none_plain points n b none =
    plain points b _ none ∙ ap (λ m. slice_from m 0 b) (none_arrives points n b none)

pub within_arrival : (points : Points) (n : ℕ) (b : Board)
    → (slice_end_within points n b).0 ≤ first_arrival points n b
within_arrival points n b = slice_within (first_arrival points n b) b

-- a breakpoint that stops nothing leaves an end as it is
kept_end : (points : Points) (b : Board) (end : ℕ × SliceOutcome)
    → outcome_at (points_after points end.0 b) (after_steps (end.0 - 1) b) (after_steps end.0 b)
    ≡ outcome.More → stopped_if_met points b end ≡ end
kept_end points b (k, outcome.More) none = ap (λ e. (k, e)) none
kept_end points b (k, outcome.Waiting) none = refl
kept_end points b (k, outcome.Stop s) none = refl
kept_end points b (k, outcome.End e) none = refl

pub unmet_plain : (points : Points) (n : ℕ) (b : Board)
    → ((j : ℕ) → j ≤ n
    → outcome_at (points_after points j b) (after_steps (j - 1) b) (after_steps j b) ≡ outcome.More)
    → slice_end_within points n b ≡ slice_from (first_arrival points n b) 0 b
unmet_plain points n b none =
    let k = first_arrival points n b in
    let end = slice_from k 0 b in
    let within : end.0 ≤ n =
    omega (arith, slice_within k b, first-within (is_at_after points b) n 0) in
    kept_end points b end (none end.0 within)

pub end_within : (points : Points) (n : ℕ) (b : Board) → (slice_end_within points n b).0 ≤ n
end_within points n b =
    omega (arith, within_arrival points n b, first-within (is_at_after points b) n 0)

pub none_passed : (points : Points) (n : ℕ) (b : Board) (j : ℕ) → 1 ≤ j
    → j < (slice_end_within points n b).0 → is_at_after points b j ≡ false
none_passed points n b j some below =
    let within = within_arrival points n b in
    first-before (is_at_after points b) n 0 j (omega (arith, some)) (omega (arith, below, within))

-- no step changes what it leaves as it was
some-step : (k : ℕ) (b : Board) (c : PlaceChange) → IsStepChange (after_steps (k - 1) b) (after_steps k b) c
    → 1 ≤ k
some-step zero b c is = absurd (is.differ (is.before ∙ sym is.after))
some-step (suc k) b c is = omega arith

stops-at : (points : Points) (was b : Board) (c : PlaceChange) → change_at points was b ≡ Some c
    → outcome_at points was b ≡ outcome.Stop stop.Breakpoint
stops-at points was b c is = rw is (by (is_any_met points b))
  where
    by : (met : Bool) → (if met || true then outcome.Stop stop.Breakpoint else outcome.More)
        ≡ outcome.Stop stop.Breakpoint
    by true = refl
    by false = refl

change-stops : (points : Points) (b : Board) (end : ℕ × SliceOutcome) (c : PlaceChange)
    → change_after points end b ≡ Some c → StopsAtChange end b c
change-stops points b (k, outcome.More) c is = absurd cc
change-stops points b (k, outcome.Waiting) c is = absurd cc
change-stops points b (k, outcome.Stop s) c is =
    let change = first_is (points_after points k b) (after_steps (k - 1) b) (after_steps k b) c is in
    record {
      some = some-step k b c change;
      reason = s;
      outcome = refl;
      change = change;
    }
change-stops points b (k, outcome.End e) c is = absurd cc

pub change_stops : (points : Points) (n : ℕ) (b : Board) (c : PlaceChange)
    → change_after points (slice_end_within points n b) b ≡ Some c
    → StopsAtChange (slice_end_within points n b) b c
change_stops points n b c is = change-stops points b (slice_end_within points n b) c is

pub change_told : (points : Points) (k : ℕ) (b : Board) (c : PlaceChange)
    → change_at (points_after points k b) (after_steps (k - 1) b) (after_steps k b) ≡ Some c
    → (stopped_if_met points b (k, outcome.More) ≡ (k, outcome.Stop stop.Breakpoint))
    × (change_after points (k, outcome.Stop stop.Breakpoint) b ≡ Some c)
change_told points k b c is = (
  ap (λ o. (k, o)) (stops-at (points_after points k b) (after_steps (k - 1) b) (after_steps k b) c is),
  first_of (points_after points k b) (after_steps (k - 1) b) (after_steps k b) c is,
)

-- ---- the board's own slice

-- its port operations are those of the answer
pub few_made : (reply : Answered) (result : Result BoardSlice AllocError) (n : ℕ) → n ≤ 4096
    → IfOk reply (λ a. length (answer_traffic a) ≤ n)
    → IfOk result (λ s. reply ≡ sliced s.executed s.traffic s.outcome)
    → IfOk result (λ s. length s.traffic ≤ 4096)
few_made reply (Err fault) n most few is = is
few_made reply (Ok s) n most few is =
    let F : Answered → Type 0 = λ r. IfOk r (λ a. length (answer_traffic a) ≤ n) in
    let within : length s.traffic ≤ n = subst F is few in
    omega (arith, within, most)

-- what the code tells of its end
abbrev pub TellsIds : Points → List Watch → SliceOutcome → LabState → List ℕ → Type 0
TellsIds points watches ending lab ids =
    (was b : Board) → RepresentsBoard lab (left_by ending b) → watches ≡ Watches points was b
    → ids ≡ ids_told points was b ending

-- where none is looked for it is the board's own slice
pub plain_end : (points : Points) (n : ℕ) (b : Board) (s : BoardSlice) (ids : List ℕ) (new : LabState)
    → is_any_looked_for points ≡ false
    → IsBoardSlice (slice_from n 0 b) b s × RepresentsBoard new (after_end (slice_from n 0 b) b)
    → TellsIds points [] s.outcome new ids
    → IsSliceWithin points n b (record {
      executed = s.executed;
      traffic = s.traffic;
      outcome = s.outcome;
      change = None;
      ids = ids;
    }) × RepresentsBoard new (after_slice_within points n b)
plain_end points n b s ids new none made tells =
    let E : ℕ × SliceOutcome → Type 0 =
    λ end. IsBoardSlice end b s × RepresentsBoard new (after_end end b) in
    let same = none_plain points n b none in
    let there = subst E (sym same) made in
    let end = slice_end_within points n b in
    let was = after_steps (end.0 - 1) b in
    let now = after_steps end.0 b in
    let R : SliceOutcome → Type 0 = λ o. RepresentsBoard new (left_by o now) in
    let told = tells was now (subst R (sym there.0.outcome) there.1)
    (sym (ap (map (watch_between was now)) (none_watched points none))) in (
      record {
        executed = there.0.executed;
        traffic = there.0.traffic;
        outcome = there.0.outcome;
        change = sym (untold points end b none);
        ids = told ∙ (ap (λ o. ids_told points was now o) there.0.outcome
            ∙ sym (ap (λ ps. ids_told ps was now end.1) (plain_after points end.0 b none)));
      },
      there.1,
    )

-- and counts nothing
pub plain_counted : (points : Points) (b : Board) (result : Result SliceResult AllocError)
    (P : SliceResult → Type 0) → is_any_looked_for points ≡ false → IfOk result P
    → IfOk result (λ s. points ≡ points_after points s.executed b)
plain_counted points b (Err e) P none made = made
plain_counted points b (Ok s) P none made = sym (plain_after points s.executed b none)

-- ---- marks

pub still_marked : (points : Points) (marks marks' : MarksState) (n : ℕ) (old : LabState)
    (reply : Answered) (s : BoardSlice) → IsMarked points marks → Leaves n old reply marks marks'
    → reply ≡ sliced s.executed s.traffic s.outcome → (b : Board) → RepresentsBoard old b
    → IsMarked points marks'
still_marked points marks marks' n old reply s marked leaves is b represents =
    let L : Answered → Type 0 = λ r. Leaves n old r marks marks' in
    subst (λ m. IsMarked points m) (sym (subst L is leaves b represents).0)
    (marked_still points marks s.executed b marked)

seen_step : (points : Points) (marks marks' : MarksState) (n : ℕ) (old : LabState) (k : ℕ)
    (traffic : List PortOperation) (ending : SliceOutcome) → IsMarked points marks
    → Leaves n old (sliced k traffic ending) marks marks' → (b : Board) → RepresentsBoard old b
    → IsAfterStep points (after_steps (k - 1) b) (after_steps k b) marks'
seen_step points marks marks' n old k traffic ending marked leaves b represents =
    subst (λ m. IsAfterStep points (after_steps (k - 1) b) (after_steps k b) m) (sym (leaves b represents).0)
    (after_step points marks k b marked)

-- a slice was made, so the run went on
runs : (marks : MarksState) (n : ℕ) (old mid : LabState) (a : Answer) → SlicesTo marks n old (ok a) mid
    → (b : Board) → RepresentsBoard old b → b.run ≡ Running
runs marks n old mid a slices b represents =
    let x = slices b represents (not_refused a OutOfMemory) in
    let n' = first_mark marks n b in
    by b.run x.0 (slice_from n' 0 b) (applies-given b x.0 (Slice n') (ok a) x.1)
  where
    by : (run : RunState) (b' : Board) (end : ℕ × SliceOutcome)
        → Gives b (while_running run (Ok (sliced_at b end))) (ok a) b' → run ≡ Running
    by Running b' end gives = refl
    by NoRun b' end gives = absurd (not_refused a NotRunning gives.0)
    by Stopped b' end gives = absurd (not_refused a NotRunning gives.0)

-- a slice was made, and its hits are counted in a vector of n breakpoints
pub record IsCountedSlice (points : Points) (new : Points) (n : ℕ) (most : ℕ) (b : Board) (s : BoardSlice)
    (mid : LabState) (marks : MarksState)
    : Type 0 where
  pub came : IsArrival points most b s.executed s.traffic s.outcome mid
  pub step : IsAfterStep points (after_steps (s.executed - 1) b) (after_steps s.executed b) marks
  pub counted : take n (new ++ drop (length new) points) ≡ points_after points s.executed b

pub slice_counts : (points ps new : Points) (n most : ℕ) (marks marks' : MarksState) (old mid : LabState)
    (reply : Answered) (s : BoardSlice) → IsMarked points marks → SlicesTo marks most old reply mid
    → Leaves most old reply marks marks' → reply ≡ sliced s.executed s.traffic s.outcome → n ≡ length points
    → ps ≡ points → Counts ps new s.executed mid marks' → (b : Board) → RepresentsBoard old b
    → IsCountedSlice points new n most b s mid marks'
slice_counts points ps new n most marks marks' old mid reply s marked slices leaves is long same counts b
    represents =
    let S : Answered → Type 0 = λ r. SlicesTo marks most old r mid in
    let L : Answered → Type 0 = λ r. Leaves most old r marks marks' in
    let a = Sliced s.executed s.traffic s.outcome in
    let running = runs marks most old mid a (subst S is slices) b represents in
    let came =
    arrived points marks most old mid s.executed s.traffic s.outcome marked (subst S is slices) b represents
    running in
    let step =
    seen_step points marks marks' most old s.executed s.traffic s.outcome marked (subst L is leaves) b
    represents in
    record {
      came = came;
      step = step;
      counted = list_after points ps new n s.executed b s.outcome mid marks' long same counts
          came.represents step;
    }

-- any other answer is an error
pub same_marks : (points : Points) (marks marks' : MarksState) (n : ℕ) (old new : LabState)
    (reply : Answered) → IsMarked points marks → SlicesTo marks n old reply new
    → OnErr reply ((new ≡ old) × (marks' ≡ marks))
    → ((k : ℕ) (traffic : List PortOperation) (ending : SliceOutcome) → reply ≢ sliced k traffic ending)
    → (b : Board) → RepresentsBoard old b → IsMarked points marks'
same_marks points marks marks' n old new (Err fault) marked slices same other b represents =
    subst (λ m. IsMarked points m) (sym same.1) marked
same_marks points marks marks' n old new (Ok a) marked slices same other b represents =
    let x = slices b represents (not_refused a OutOfMemory) in
    let n' = first_mark marks n b in
    by b.run x.0 (slice_from n' 0 b) (applies-given b x.0 (Slice n') (Ok a) x.1)
  where
    by : (run : RunState) (b' : Board) (end : ℕ × SliceOutcome)
        → Gives b (while_running run (Ok (sliced_at b end))) (Ok a) b' → IsMarked points marks'
    by Running b' (k, ending) gives = absurd (other k (traffic_of k b) ending gives.0)
    by NoRun b' end gives = absurd (not_refused a NotRunning gives.0)
    by Stopped b' end gives = absurd (not_refused a NotRunning gives.0)
