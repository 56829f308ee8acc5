use Rattle.std.proofs.lemmas.Result.{IfErr-weaker}
use Rattle.zmtp_wire.proofs.EchoLemmas.{round_lost, round_stop}
use Rattle.zmtp_wire.proofs.heartbeat.beat.Goals as goal

pub returns-in-Err-clause-lost : goal.returns-in-Err-clause-lost
returns-in-Err-clause-lost g c =
    round_stop _ _ c.args.decoder.now _ c.in-Err.fault c.in-Err.ensures.given c.read_piece.ensures.reads
    c.in-Err.ensures.stops

pub returns-in-Ok-clause-lost : goal.returns-in-Ok-clause-lost
returns-in-Ok-clause-lost g c =
    IfErr-weaker c.echo_piece.result _ _
    (λ fault lost. round_lost _ _ _ c.args.decoder.now c.echo_piece.new.decoder _ _ fault
    c.in-Ok.ensures.given c.read_piece.ensures.reads lost)
    c.echo_piece.ensures.err
