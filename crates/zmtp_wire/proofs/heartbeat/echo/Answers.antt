use Rattle.std.proofs.Common.{List, ℕ, subst}
use Rattle.base_streams.specs.Told.{TookPrefix}
use Rattle.zmtp_wire.specs.Sending.{messages_bytes}
use Rattle.zmtp_wire.proofs.EchoLemmas.{echo_cut}
use Rattle.zmtp_wire.proofs.heartbeat.echo.Goals as goal

pub returns-in-Err : goal.returns-in-Err
returns-in-Err g c =
    let P : List (List (List ℕ)) → Type 0 =
    λ l. TookPrefix (g.W.Outlet.state c.args.to.now) (g.W.Outlet.state c.echo_message.new.to)
    (messages_bytes l) in
    let front =
    echo_cut _ _ _ c.as_slice-message-items.result.now c.loop-message.message-index c.message-item.result
    c.loop-message-test.true c.message-item.is c.loop-message.invariant.took c.in-Err.ensures.0 in
    (subst P c.as_slice-message-items.ensures front, c.in-Err.ensures.1)
