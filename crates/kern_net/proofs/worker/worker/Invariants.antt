use Rattle.std.proofs.Common.{◌≡◌}
use Rattle.kern_net.specs.Gates.{IsOpen}
use Rattle.kern_net.specs.Work.{Sliced}
use Rattle.kern_net.proofs.worker.worker.Given as goal

abbrev pub invariant-loop-slices : goal.invariant-loop-slices
invariant-loop-slices g l = record {
  own : l.pass.turnstile ≡ l.desk;
  seat : l.pass.seat ≡ l.fn.pass.seat;
  gate : IsOpen (g.G.WorkerGate.polls l.gate);
  count : l.slices ≡ (g.G.WorkerGate.polls l.gate).before.yes;
  woke : l.slices ≡ (g.G.WorkerGate.polls l.gate).wakes;
  sliced : Sliced l.fn.pass.calls l.pass.calls (g.G.WorkerGate.polls l.fn.gate) (g.G.WorkerGate.polls l.gate)
      0;
}
