use Rattle.dap_search.proofs.FindLemmas.{marked_with}
use Rattle.dap_search.proofs.marks.marks_of.Goals as goal

pub returns : goal.returns
returns c = λ b represents.
    marked_with c.args.points.now b c.in_ok-marks.marks c.mark_points.new.marks
    (c.in_ok-marks.ensures b represents) (rw c.points.ensures at c.mark_points.ensures.addresses)
    c.mark_points.ensures.rest
