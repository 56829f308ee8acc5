use Rattle.lab_image.proofs.TellLemmas.{tells_next}
use Rattle.lab_image.proofs.spans.put_in_order.Goals as goal

pub loop-i-preserved : goal.loop-i-preserved
loop-i-preserved c = record {
  sorted = c.in_ok-put_row.ensures.sorted;
  origins = tells_next c.args.source c.args.rows.now c.loop-i.i _
      c.args.spans.now.items c.loop-i.spans.items c.put_row.new.spans.items
      c.loop-i-test.true c.loop-i.invariant.origins c.in_ok-put_row.ensures.origins;
}
