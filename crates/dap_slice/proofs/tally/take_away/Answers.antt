use Rattle.std.proofs.Common.{arith}
use Rattle.dap_slice.proofs.TallyLemmas.{taken_all}
use Rattle.dap_slice.proofs.tally.take_away.Goals as goal

pub returns : goal.returns
returns c =
    let least = c.min-end.ensures in
    let end = c.loop-index-test.false in
    let long = c.loop-index.auto.points in
    taken_all c.args.points.now c.loop-index.points c.args.gone.now c.loop-index.index
    (λ inside. omega (arith, inside, least, end, long)) c.loop-index.invariant
