use Rattle.std.proofs.Common.{◌∙◌, ◌-◌, ◌+◌, sym, ap}
use Rattle.dap_disassembly.specs.Instructions.{before_instructions}
use Rattle.dap_disassembly.proofs.BeforeLemmas.{before-next, before-end}
use Rattle.dap_disassembly.proofs.before.before_instructions.Goals as goal

pub loop-preserved : goal.loop-preserved
loop-preserved c = λ b s.
    ap (λ a. before_instructions b a (c.args.count - (c.loop.counter + 1)))
    (c.instruction_before-first.ensures b s)
    ∙ sym (before-next b c.loop.first c.args.count c.loop.counter c.loop-test.true)
    ∙ c.loop.invariant b s

pub returns : goal.returns
returns c = λ b s.
    sym (before-end b c.loop.first c.args.count c.loop.counter c.loop-test.false) ∙ c.loop.invariant b s
