use Rattle.base_streams.specs.States.{IsReadable, IsWritable}
use Rattle.zmtp_wire.proofs.EchoLemmas.{Beats}
use Rattle.zmtp_wire.proofs.heartbeat.heartbeat.Given as goal

abbrev pub invariant-loop : goal.invariant-loop
invariant-loop g l = record {
  readable : IsReadable (g.I.Inlet.state l.from);
  writable : IsWritable (g.W.Outlet.state l.to);
  beats : Beats (g.I.Inlet.state l.fn.from) (g.I.Inlet.state l.from) (g.W.Outlet.state l.fn.to)
      (g.W.Outlet.state l.to) l.peer.decoder l.counter;
}
