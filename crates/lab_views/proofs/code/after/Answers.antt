use Rattle.std.proofs.Common.{◌∙◌, sym}
use Rattle.lab_views.proofs.CodeLemmas.{after-next, after-end}
use Rattle.lab_views.proofs.code.after.Goals as goal

pub loop-preserved : goal.loop-preserved
loop-preserved c =
    rw c.next_address-next.ensures
    (sym (after-next c.args.machine.now c.loop.next c.args.count c.loop.counter c.loop-test.true)
    ∙ c.loop.invariant)

pub returns : goal.returns
returns c =
    sym (after-end c.args.machine.now c.loop.next c.args.count c.loop.counter c.loop-test.false)
    ∙ c.loop.invariant
