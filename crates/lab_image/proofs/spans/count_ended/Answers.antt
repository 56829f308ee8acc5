use Rattle.std.proofs.Common.{◌+◌, ◌-◌, ◌/◌, arith}
use Rattle.lab_image.proofs.SpanLemmas.{ended_to, beyond_from}
use Rattle.lab_image.proofs.spans.count_ended.Goals as goal

pub loop-low-preserved-then-spans-middle : goal.loop-low-preserved-then-spans-middle
loop-low-preserved-then-spans-middle c = record {
  order = omega arith;
  within = c.loop-low.invariant.within;
  ended =
      ended_to 0 65536 c.args.spans.now (c.loop-low.low + (c.loop-low.high - c.loop-low.low) / 2)
      c.args.address c.requires (omega arith) c.if-spans-middle.true;
  beyond = c.loop-low.invariant.beyond;
}

pub loop-low-preserved : goal.loop-low-preserved
loop-low-preserved c = record {
  order = omega arith;
  within = omega arith;
  ended = c.loop-low.invariant.ended;
  beyond =
      beyond_from 0 65536 c.args.spans.now (c.loop-low.low + (c.loop-low.high - c.loop-low.low) / 2)
      c.args.address c.requires c.if-spans-middle.false;
}
