use Rattle.std.proofs.Common.{◌≡◌, ◌-◌}
use Rattle.base_streams.specs.States.{IsReadable}
use Rattle.zmtp_wire.specs.Ends.{ReceivedOn}
use Rattle.zmtp_wire.proofs.handshake.await_ready.Given as goal

abbrev pub invariant-loop-alloc : goal.invariant-loop-alloc
invariant-loop-alloc g l = record {
  readable : IsReadable (g.I.Inlet.state l.from);
  role : l.peer.decoder.role ≡ l.fn.peer.decoder.role;
  received : ReceivedOn (g.I.Inlet.state l.fn.from) (g.I.Inlet.state l.from) l.fn.peer l.peer;
}

abbrev pub decreases-loop-alloc : goal.decreases-loop-alloc
decreases-loop-alloc g l = 4294967295 - l.peer.reads
