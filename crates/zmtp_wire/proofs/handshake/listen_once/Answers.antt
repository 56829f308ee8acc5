use Rattle.std.proofs.Common.{◌∙◌, sym}
use Rattle.zmtp_wire.proofs.ReceivingLemmas.{received_on, lost_memory, lost_stop, lost_wire, unready_by}
use Rattle.zmtp_wire.proofs.handshake.listen_once.Goals as goal

pub returns-in-Err-clause-lost : goal.returns-in-Err-clause-lost
returns-in-Err-clause-lost g c = λ before received.
    lost_stop before _ _ _ c.in-Err.fault c.requires.unready c.requires.left c.in-Err.ensures.stops
    c.in-Err.ensures.given c.read_piece.ensures.reads received

pub returns-in_default-clause-lost : goal.returns-in_default-clause-lost
returns-in_default-clause-lost g c = λ before received.
    lost_memory before _ _ _ _ c.requires.left c.in-Ok.ensures.given c.read_piece.ensures.reads received

pub returns-in-Some-clause-lost : goal.returns-in-Some-clause-lost
returns-in-Some-clause-lost g c = λ before received.
    lost_wire before _ _ _ c.in-Some.cause c.in-Ok-feed.ensures.completes.role
    (unready_by _ c.feed.new.decoder c.is_ready.ensures c.if-not-is_ready.true)
    (sym c.in-Ok-feed.ensures.broken ∙ c.in-Some.is)
    (received_on before _ _ _ c.feed.new.decoder _ _ c.requires.unready c.requires.left
    c.in-Ok-feed.ensures.completes c.in-Ok.ensures.given c.read_piece.ensures.reads received)

pub returns-in-Some-2-clause-received : goal.returns-in-Some-2-clause-received
returns-in-Some-2-clause-received g c = λ before received.
    received_on before _ _ _ c.feed.new.decoder _ _ c.requires.unready c.requires.left
    c.in-Ok-feed.ensures.completes c.in-Ok.ensures.given c.read_piece.ensures.reads received

pub returns-in-Some-2-2-clause-received : goal.returns-in-Some-2-2-clause-received
returns-in-Some-2-2-clause-received g c = λ before received.
    received_on before _ _ _ c.feed.new.decoder _ _ c.requires.unready c.requires.left
    c.in-Ok-feed.ensures.completes c.in-Ok.ensures.given c.read_piece.ensures.reads received
