use Rattle.std.proofs.Common.{◌<◌, length, arith}
use Rattle.lab_core.proofs.MarkLemmas.{with_after_more}
use Rattle.lab_core.proofs.marks.keep_values_after.Goals as goal

pub loop-watch-preserved : goal.loop-watch-preserved
loop-watch-preserved c =
    let i = c.loop-watch.watch-index in
    let inside : i < length c.args.watches.now = omega arith in
    with_after_more c.args.machine.now c.args.watches.now c.loop-watch.watches i c.value_at-watch.result _
    inside c.loop-watch.invariant c.value_at-watch.ensures
