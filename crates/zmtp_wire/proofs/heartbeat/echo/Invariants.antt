use Rattle.std.proofs.Common.{take}
use Rattle.base_streams.specs.States.{IsWritable}
use Rattle.base_streams.specs.Told.{Took}
use Rattle.zmtp_wire.specs.Sending.{messages_bytes}
use Rattle.zmtp_wire.proofs.heartbeat.echo.Given as goal

abbrev pub invariant-loop-message : goal.invariant-loop-message
invariant-loop-message g l = record {
  good : IsWritable (g.W.Outlet.state l.to);
  took : Took (g.W.Outlet.state l.fn.to) (g.W.Outlet.state l.to)
      (messages_bytes (take l.message-index l.message-items));
}
