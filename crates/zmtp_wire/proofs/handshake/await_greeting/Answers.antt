use Rattle.zmtp_wire.proofs.ReceivingLemmas.{lost_as}
use Rattle.zmtp_wire.proofs.handshake.await_greeting.Goals as goal

pub returns-in-Err-clause-lost : goal.returns-in-Err-clause-lost
returns-in-Err-clause-lost g c = λ before received.
    lost_as before _ _ _ _ c.loop-count.invariant.role
    (c.in-Err.ensures.lost before (c.loop-count.invariant.received before received))
