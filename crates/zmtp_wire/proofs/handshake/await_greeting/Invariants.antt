use Rattle.std.proofs.Common.{◌≡◌, ◌-◌}
use Rattle.base_streams.specs.States.{IsReadable}
use Rattle.zmtp_wire.specs.Ends.{ReceivedOn}
use Rattle.zmtp_wire.proofs.handshake.await_greeting.Given as goal

abbrev pub invariant-loop-count : goal.invariant-loop-count
invariant-loop-count g l = record {
  readable : IsReadable (g.I.Inlet.state l.from);
  role : l.peer.decoder.role ≡ l.fn.peer.decoder.role;
  received : ReceivedOn (g.I.Inlet.state l.fn.from) (g.I.Inlet.state l.from) l.fn.peer l.peer;
}

abbrev pub decreases-loop-count : goal.decreases-loop-count
decreases-loop-count g l = 64 - l.count
