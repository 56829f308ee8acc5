use Rattle.std.proofs.Common.{◌≡◌}
use Rattle.base_streams.specs.States.{IsWritable}
use Rattle.kern_net.specs.Gates.{PolledForEach}
use Rattle.kern_net.specs.Out.{FetchedOn}
use Rattle.kern_net.proofs.OutLemmas.{Written, Since}
use Rattle.kern_net.proofs.pump_out.pump_out.Given as goal
use Rattle.kern_net.specs.Routes.{target_of}

abbrev pub invariant-loop : goal.invariant-loop
invariant-loop g l = record {
  own : l.pass.turnstile ≡ l.route.desk.now;
  seat : l.pass.seat ≡ l.fn.pass.seat;
  good : IsWritable (g.W.Outlet.state l.to);
  gate : (g.G.WriterGate.polls l.gate).idle.no ≡ 0;
  written : Written (target_of l.route) (g.W.Outlet.state l.fn.to)
      (g.W.Outlet.state l.to) l.from l.next l.pass.seen;
  since : Since (target_of l.route) (g.W.Outlet.state l.to) (g.G.WriterGate.polls l.gate).next l.next
      l.pass.seen;
  fetched : FetchedOn l.route.connection l.from l.fn.pass l.pass l.next;
  polled : PolledForEach l.fn.pass l.pass (g.G.WriterGate.polls l.fn.gate) (g.G.WriterGate.polls l.gate);
}
