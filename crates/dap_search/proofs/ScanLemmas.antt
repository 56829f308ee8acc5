-- What a phase has seen after more of the run.
use Rattle.std.proofs.Common.{◌≡◌, ◌∙◌, ◌≤◌, ◌+◌, ℕ, List, Option, Some, if◌then◌else◌, sym, ap, subst}
use Rattle.std.proofs.Common.{arith}
use Rattle.lab_core.specs.Board.{Board}
use Rattle.lab_core.specs.Labs.{LabState}
use Rattle.lab_core.specs.Marks.{MarksState}
use Rattle.dap_slice.specs.declared.conditions.ConditionalBreakpoint.{ConditionalBreakpoint}
use Rattle.dap_slice.specs.Conditions.{IsMarked}
use Rattle.dap_slice.specs.Counts.{without_hits}
use Rattle.dap_slice.specs.Tallies.{IsTallyOf}
use Rattle.dap_slice.proofs.TallyLemmas.{Counts}
use Rattle.dap_history.specs.declared.input.Recorded.{Recorded}
use Rattle.dap_history.specs.Logs.{Ascends, later_than}
use Rattle.dap_history.specs.Runs.{board_at, detached_run}
use Rattle.dap_search.specs.declared.phase.Phase.{Phase}
use Rattle.dap_search.specs.declared.phase.Phase.TheVariants.{Find, RecountHits}
use Rattle.dap_search.specs.Goals.{Target, is_passed, goal_below, passes}
use Rattle.dap_search.specs.Recounts.{hits_between}
use Rattle.dap_search.specs.Scans.{after_test, CountsStep, stride_of, HasSeen, HasRecounted, Advances}
use Rattle.dap_search.proofs.FindLemmas.{same_goal, seen_on, passed_to, marked_after}
use Rattle.dap_search.proofs.RecountLemmas.{counted_on, between_on, none_between}

-- no hits yet
pub none_counted : (start now : Board) (log : List Recorded) (points : List ConditionalBreakpoint) (m : ℕ)
    (tally : Counts) (marks : MarksState) → IsTallyOf points (without_hits points) tally
    → IsMarked points marks → HasRecounted start log now points m m tally marks
none_counted start now log points m tally marks counted marked = record {
  after = omega arith;
  counted = subst (λ ps. IsTallyOf points ps tally) (sym (none_between points start now log m)) counted;
  marked = marked;
}

-- the board is tested, the run goes on to the next mark, and the hits of the step there are counted
pub seen_more : (start now : Board) (log rest : List Recorded) (target : Target) (low m n k : ℕ)
    (phase tested counted : Phase) (marks marks' : MarksState) (resumed : Option ℕ) (lab : LabState)
    → Ascends 0 log → rest ≡ later_than m log → Ascends (m + k) rest → 1 ≤ k → k ≤ n → n ≤ stride_of phase
    → Advances marks n resumed (board_at start log m) now k lab marks'
    → tested ≡ after_test target.points (detached_run resumed (board_at start log m) now) m phase
    → CountsStep target.points marks' lab tested counted → HasSeen start log now target low m phase marks
    → HasSeen start log now target low (m + k) counted marks'
seen_more start now log rest target low m n k (Find goal best) tested counted marks marks' resumed lab asc is
    later some few stride on test count seen =
    let was = board_at start log m in
    let points = target.points in
    let passing : is_passed points goal m (detached_run resumed was now) ≡ passes target start log now m =
    ap (λ g. is_passed points g m (detached_run resumed was now)) seen.goal_is
    ∙ same_goal points target.goal resumed was now m in
    let better = if passes target start log now m then Some m else best in
    let made : tested ≡ Find goal better =
    test ∙ ap (λ t. Find goal (if t then Some m else best)) passing in
    let kept : counted ≡ Find goal better =
    subst (λ p. CountsStep points marks' lab p counted) made count in
    let within : k ≤ stride_of (Find target.goal best) =
    subst (λ g. k ≤ stride_of (Find g best)) seen.goal_is (omega (arith, few, stride)) in
    subst (λ p. HasSeen start log now target low (m + k) p marks') (sym kept) (record {
      last = seen_on target start now log rest m k (goal_below target start log now low) best asc is later
          some within
          (λ j first below.
          passed_to points marks n k j resumed was now seen.marked on.within first below)
          seen.last;
      marked = marked_after points now (detached_run resumed was now) k marks marks' seen.marked on.marks_are;
      goal_is = seen.goal_is;
    })
seen_more start now log rest target low m n k (RecountHits tally) tested counted marks marks' resumed lab asc
    is later some few stride on test count seen =
    let points = target.points in
    let step = subst (λ p. CountsStep points marks' lab p counted) test count in
    let after = seen.after in
    let made =
    counted_on points (hits_between points start log now low m) marks marks' tally step.0 n k resumed
    (board_at start log m) now lab seen.marked seen.counted some on step.2 in
    subst (λ p. HasSeen start log now target low (m + k) p marks') (sym step.1) (record {
      after = omega (arith, after);
      counted = subst (λ ps. IsTallyOf points ps step.0)
          (sym (between_on points start now log rest low m k seen.after asc is later)) made.0;
      marked = made.1;
    })
