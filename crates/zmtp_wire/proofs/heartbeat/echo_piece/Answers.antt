use Rattle.zmtp_wire.proofs.EchoLemmas.{piece_memory, piece_refused}
use Rattle.zmtp_wire.proofs.heartbeat.echo_piece.Goals as goal

pub returns-in_default-clause-err : goal.returns-in_default-clause-err
returns-in_default-clause-err g c =
    λ from. piece_memory c.args.piece.now from c.args.decoder.now c.feed.new.decoder _
    c.in_default.ensures.err

pub returns-in-Err-clause-err : goal.returns-in-Err-clause-err
returns-in-Err-clause-err g c =
    λ from. piece_refused c.args.piece.now from c.args.decoder.now c.feed.new.decoder _ _ _ c.in-Err.fault
    c.in-Ok.ensures.completes c.in-Err.ensures.1 c.in-Err.ensures.0
