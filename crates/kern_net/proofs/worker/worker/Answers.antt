use Rattle.std.proofs.Common.{◌∙◌, sym}
use Rattle.kern_net.proofs.WorkLemmas.{sliced_then}
use Rattle.kern_net.proofs.worker.worker.Goals as goal

pub returns-in-Err : goal.returns-in-Err
returns-in-Err g c = record {
  same = (c.round.ensures.same.0, c.round.ensures.same.1 ∙ c.loop-slices.invariant.seat);
  sliced = sliced_then _ _ _ _ _ _ _ c.loop-slices.invariant.sliced c.in-Err.ensures.err;
  ends = c.in-Err.ensures.ends;
}

pub loop-slices-preserved : goal.loop-slices-preserved
loop-slices-preserved g c = record {
  own = c.round.ensures.same.0;
  seat = c.round.ensures.same.1 ∙ c.loop-slices.invariant.seat;
  gate = c.in-Ok.ensures.gate;
  count = sym c.in-Ok.ensures.once;
  woke = sym c.in-Ok.ensures.woke;
  sliced = sliced_then _ _ _ _ _ _ 0 c.loop-slices.invariant.sliced c.in-Ok.ensures.ok;
}
