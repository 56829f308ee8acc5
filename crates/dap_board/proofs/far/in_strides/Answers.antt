use Rattle.std.proofs.Common.{◌∙◌, ◌-◌, ◌≤◌, ap, arith}
use Rattle.lab_views.specs.Code.{after_instructions}
use Rattle.dap_board.proofs.FarLemmas.{after_part}
use Rattle.dap_board.proofs.far.in_strides.Goals as goal

pub loop-left-preserved : goal.loop-left-preserved
loop-left-preserved c = λ b s.
    let left = c.loop-left.left in
    let within : 65535 ≤ left = omega arith in
    ap (λ a. after_instructions b.machine a (left - 65535)) (c.after_instructions-next.ensures b s)
    ∙ after_part b.machine c.loop-left.next 65535 left within
    ∙ c.loop-left.invariant b s
