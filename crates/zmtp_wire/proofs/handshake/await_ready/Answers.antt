use Rattle.zmtp_wire.proofs.ReceivingLemmas.{lost_as, lost_most, unready_by}
use Rattle.zmtp_wire.proofs.handshake.await_ready.Goals as goal

pub returns-in-Err-clause-lost : goal.returns-in-Err-clause-lost
returns-in-Err-clause-lost g c = λ before received.
    lost_as before _ _ _ _ c.loop-alloc.invariant.role
    (c.in-Err.ensures.lost before (c.loop-alloc.invariant.received before received))

pub returns-then-peer-clause-lost : goal.returns-then-peer-clause-lost
returns-then-peer-clause-lost g c = λ before received.
    lost_most before _ _ _ c.if-peer.true c.loop-alloc.invariant.role
    (unready_by _ c.loop-alloc.peer.decoder c.is_ready.ensures c.loop-alloc-test.true)
    (c.loop-alloc.invariant.received before received)
