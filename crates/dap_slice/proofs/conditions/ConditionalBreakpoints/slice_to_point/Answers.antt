use Rattle.std.proofs.Common.{◌≡◌, ◌∙◌, ◌-◌, sym, subst}
use Rattle.lab_core.specs.Slices.{after_steps}
use Rattle.dap_slice.specs.Conditions.{IsMarked}
use Rattle.dap_slice.specs.Changes.{IsAfterStep}
use Rattle.dap_slice.specs.Counts.{points_after}
use Rattle.dap_slice.specs.Stops.{ids_told}
use Rattle.dap_slice.specs.SliceEnds.{outcome_if_met, change_told}
use Rattle.dap_slice.proofs.CountLemmas.{same_after, after_same, marked_same}
use Rattle.dap_slice.proofs.SliceLemmas.{Points, slice_counts, run_after, whole, still_marked, same_marks}
use Rattle.dap_slice.proofs.conditions.ConditionalBreakpoints.slice_to_point.Goals as goal

pub returns-clause-made : goal.returns-clause-made
returns-clause-made c = λ b represents running.
    let s = c.in_ok-slice.slice in
    let all = c.self.inside.points in
    let marks = c.slice_to-answer.new.marks in
    let made =
    slice_counts all.items c.deref_mut.result.now c.count_hits.new.points all.len c.args.most
    c.self.inside.marks marks c.args.lab.now c.slice_to-answer.new.self c.slice_to-answer.result s
    c.self.invariant c.slice_to-answer.ensures.applied c.slice_to-answer.ensures.marks
    c.in_ok-slice.ensures.ok all.ok.0 c.deref_mut.ensures.value c.count_hits.ensures b represents in
    let was = after_steps (s.executed - 1) b in
    let now = after_steps s.executed b in
    let after = points_after all.items s.executed b in
    let seen : c.as_slice-points.result.now ≡ after = c.as_slice-points.ensures.value ∙ made.counted in
    let E : Points → Type 0 = λ ps. IsAfterStep ps was now marks in
    let step : E c.as_slice-points.result.now =
    subst E (sym seen) (after_same all.items after was now marks (sym (same_after all.items s.executed b))
    made.step) in
    let ended =
    c.end_at-outcome.ensures was now (run_after s.executed b ∙ running) step made.came.represents in
    let ending = c.end_at-outcome.result in
    let told = c.change_told-change.ensures was now ended.1 step in
    let O : Points → Type 0 = λ ps. ending ≡ outcome_if_met ps was now s.outcome in
    let C : Points → Type 0 = λ ps. c.change_told-change.result ≡ change_told ps was now ending in
    let numbered = c.ids_told-ids.ensures was now ended.1 (c.watches.ensures ∙ step.watches) in
    let I : Points → Type 0 = λ ps. c.ids_told-ids.result ≡ ids_told ps was now ending in
    rw (← c.self.view_is)
    (whole all.items c.args.most b (record {
      executed = s.executed;
      traffic = s.traffic;
      outcome = ending;
      change = c.change_told-change.result;
      ids = c.ids_told-ids.result;
    }) s.outcome c.slice_to-answer.new.self c.end_at-outcome.new.lab made.came (subst O seen ended.0)
    (subst C seen told) (subst I seen numbered) ended.1)

pub returns-clause-hits : goal.returns-clause-hits
returns-clause-hits c = λ b represents running.
    let s = c.in_ok-slice.slice in
    let all = c.self.inside.points in
    let made =
    slice_counts all.items c.deref_mut.result.now c.count_hits.new.points all.len c.args.most
    c.self.inside.marks c.slice_to-answer.new.marks c.args.lab.now c.slice_to-answer.new.self
    c.slice_to-answer.result s c.self.invariant c.slice_to-answer.ensures.applied
    c.slice_to-answer.ensures.marks c.in_ok-slice.ensures.ok all.ok.0 c.deref_mut.ensures.value
    c.count_hits.ensures b represents in
    rw (← c.self.view_is) made.counted

pub invariant_of-self : goal.invariant_of-self
invariant_of-self c =
    let slice = c.slice_to-answer in
    same_marks c.self.inside.points.items c.self.inside.marks slice.new.marks c.args.most c.args.lab.now
    slice.new.self slice.result c.self.invariant slice.ensures.applied slice.ensures.err
    c.in_err-slice.ensures.err c.requires.board.0 c.requires.board.1

pub invariant_of-self-2 : goal.invariant_of-self-2
invariant_of-self-2 c =
    let s = c.in_ok-slice.slice in
    let all = c.self.inside.points in
    let marks = c.slice_to-answer.new.marks in
    let b = c.requires.board.0 in
    let made =
    slice_counts all.items c.deref_mut.result.now c.count_hits.new.points all.len c.args.most
    c.self.inside.marks marks c.args.lab.now c.slice_to-answer.new.self c.slice_to-answer.result s
    c.self.invariant c.slice_to-answer.ensures.applied c.slice_to-answer.ensures.marks
    c.in_ok-slice.ensures.ok all.ok.0 c.deref_mut.ensures.value c.count_hits.ensures b c.requires.board.1 in
    let after = points_after all.items s.executed b in
    subst (λ ps. IsMarked ps marks) (sym made.counted)
    (marked_same all.items after marks (sym (same_after all.items s.executed b))
    (still_marked all.items c.self.inside.marks marks c.args.most c.args.lab.now c.slice_to-answer.result s
    c.self.invariant c.slice_to-answer.ensures.marks c.in_ok-slice.ensures.ok b c.requires.board.1))
