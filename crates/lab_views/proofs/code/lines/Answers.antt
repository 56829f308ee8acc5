use Rattle.std.proofs.Common.{◌≡◌, ◌+◌, ◌-◌, ◌∷◌}
use Rattle.lab_views.specs.Code.{lines_from}
use Rattle.lab_views.proofs.ListLemmas.{made_more, made_all}
use Rattle.lab_views.proofs.CodeLemmas.{lines_from-next, lines_from-end}
use Rattle.lab_views.proofs.code.lines.Goals as goal

pub loop-preserved : goal.loop-preserved
loop-preserved c =
    let m = c.args.machine.now in
    let next = lines_from-next m c.loop.next c.args.count c.loop.counter c.loop-test.true in
    let left : lines_from m c.loop.next (c.args.count - c.loop.counter)
    ≡ c.in_ok-line.line ∷ lines_from m c.next_address-next.result (c.args.count - (c.loop.counter + 1)) =
    rw (c.in_ok-line.ensures, c.next_address-next.ensures) next in
    made_more _ _ _ _ _ _ c.in_ok-push.ensures.ok left c.loop.invariant

pub returns : goal.returns
returns c =
    made_all _ _ _ (lines_from-end c.args.machine.now c.loop.next c.args.count c.loop.counter
    c.loop-test.false) c.loop.invariant
