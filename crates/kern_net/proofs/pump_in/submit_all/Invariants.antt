use Rattle.std.proofs.Common.{◌≡◌}
use Rattle.kern_net.specs.Gates.{WokeForEach, WokeOwnForEach, HasWoken}
use Rattle.kern_net.proofs.ReadLemmas.{Coming}
use Rattle.kern_net.proofs.pump_in.submit_all.Given as goal
use Rattle.kern_net.specs.Routes.{source_of}

abbrev pub invariant-loop-frames : goal.invariant-loop-frames
invariant-loop-frames g l = record {
  next : (goal.iterator-loop-frames g).can_next l.frames-iterator;
  own : l.pass.turnstile ≡ l.route.desk.now;
  seat : l.pass.seat ≡ l.fn.pass.seat;
  woken : HasWoken (g.G.ReaderGate.polls l.gate);
  woke : WokeForEach l.fn.pass l.pass (g.G.ReaderGate.polls l.fn.gate) (g.G.ReaderGate.polls l.gate);
  told : WokeOwnForEach l.fn.pass l.pass (g.G.ReaderGate.polls l.fn.gate) (g.G.ReaderGate.polls l.gate);
  coming : Coming (source_of l.route) l.fn.messages l.frames-iterator.rest.items l.fn.pass l.pass;
}
