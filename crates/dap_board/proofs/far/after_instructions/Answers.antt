use Rattle.std.proofs.Common.{◌∙◌, ◌-◌, ◌≤◌, ap, arith}
use Rattle.lab_views.specs.Code.{after_instructions}
use Rattle.dap_board.proofs.FarLemmas.{after_part, after_remainder}
use Rattle.dap_board.proofs.far.after_instructions.Goals as goal

pub returns-in-Some : goal.returns-in-Some
returns-in-Some c = λ b s.
    let left = c.args.count - 65535 in
    let within : 65535 ≤ c.args.count = omega arith in
    c.in_strides-in-Some.ensures b s
    ∙ after_remainder b.machine c.in_strides-far.result c.in-Some.cycle left (c.in-Some.ensures.cycles b s)
    ∙ ap (λ a. after_instructions b.machine a left) (c.in_strides-far.ensures b s)
    ∙ after_part b.machine c.args.address 65535 c.args.count within

pub returns-in-None : goal.returns-in-None
returns-in-None c = λ b s.
    let left = c.args.count - 65535 in
    let within : 65535 ≤ c.args.count = omega arith in
    c.in_strides-in-None.ensures b s
    ∙ ap (λ a. after_instructions b.machine a left) (c.in_strides-far.ensures b s)
    ∙ after_part b.machine c.args.address 65535 c.args.count within
