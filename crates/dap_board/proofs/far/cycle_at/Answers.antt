use Rattle.std.proofs.Common.{◌∙◌, sym, ap}
use Rattle.lab_views.specs.Code.{after_instructions}
use Rattle.dap_board.proofs.FarLemmas.{after_none, after_sum}
use Rattle.dap_board.proofs.far.cycle_at.Goals as goal

pub loop-passed-init : goal.loop-passed-init
loop-passed-init c = λ b s. sym (after_none b.machine c.args.address)

pub returns-then-next-address-clause-cycles : goal.returns-then-next-address-clause-cycles
returns-then-next-address-clause-cycles c = λ b s.
    after_sum b.machine c.args.address c.loop-passed.passed 1
    ∙ ap (λ a. after_instructions b.machine a 1) (sym (c.loop-passed.invariant b s))
    ∙ sym (c.after_instructions-next.ensures b s)
    ∙ c.if-next-address.true

pub loop-passed-preserved : goal.loop-passed-preserved
loop-passed-preserved c = λ b s.
    c.after_instructions-next.ensures b s
    ∙ ap (λ a. after_instructions b.machine a 1) (c.loop-passed.invariant b s)
    ∙ sym (after_sum b.machine c.args.address c.loop-passed.passed 1)
