use Rattle.std.proofs.Common.{◌≡◌}
use Rattle.base_streams.specs.States.{IsReadable}
use Rattle.kern_net.specs.Gates.{WokeForEach, WokeOwnForEach, HasWoken}
use Rattle.kern_net.proofs.ReadLemmas.{UnderWay}
use Rattle.kern_net.proofs.pump_in.pump_in.Given as goal
use Rattle.kern_net.specs.Routes.{source_of}

abbrev pub invariant-loop-reads : goal.invariant-loop-reads
invariant-loop-reads g l = record {
  own : l.pass.turnstile ≡ l.route.desk.now;
  seat : l.pass.seat ≡ l.fn.pass.seat;
  woken : HasWoken (g.G.ReaderGate.polls l.gate);
  woke : WokeForEach l.fn.pass l.pass (g.G.ReaderGate.polls l.fn.gate) (g.G.ReaderGate.polls l.gate);
  told : WokeOwnForEach l.fn.pass l.pass (g.G.ReaderGate.polls l.fn.gate) (g.G.ReaderGate.polls l.gate);
  readable : IsReadable (g.I.Inlet.state l.from);
  read : UnderWay (source_of l.route) l.fn.peer (g.I.Inlet.state l.fn.from) (g.I.Inlet.state l.from) l.fn.pass
      (record { decoder = l.decoder; pass = l.pass }) l.reads;
}
