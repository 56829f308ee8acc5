use Rattle.std.proofs.Common.{arith, rules}
use Rattle.zmtp_wire.proofs.EchoLemmas.{beats_first, beats_none, beats_round, ended_beat, ended_early}
use Rattle.zmtp_wire.proofs.EchoLemmas.{ended_first, ended_most, ended_none}
use Rattle.zmtp_wire.proofs.heartbeat.heartbeat.Goals as goal

pub returns-in-Err : goal.returns-in-Err
returns-in-Err g c = record {
  blames = search rules;
  echoes =
      ended_early _ _ _ _ c.in-Err.fault c.in-Err.ensures.lost c.in-Err.ensures.front;
}

pub returns-in-Err-echo : goal.returns-in-Err-echo
returns-in-Err-echo g c = record {
  blames = search rules;
  echoes =
      ended_first _ _ _ _ _ c.in-Ok.peer c.in-Err-echo.fault c.in-Ok.ensures.role
      c.in-Ok.ensures.received c.in-Ok.ensures.whole c.in-Err-echo.ensures.1 c.in-Err-echo.ensures.0;
}

pub returns-in-Err-echo_piece : goal.returns-in-Err-echo_piece
returns-in-Err-echo_piece g c = record {
  blames = search rules;
  echoes =
      ended_none _ _ _ _ _ c.in-Ok.peer.decoder c.echo_piece.new.decoder c.in-Ok.peer.reads
      c.in-Err-echo_piece.fault c.in-Err-echo_piece.ensures.err
      (beats_first _ _ _ _ _ c.in-Ok.peer c.in-Ok.ensures.role c.in-Ok.ensures.received c.in-Ok.ensures.whole
      c.in-Ok-echo.ensures.0);
}

pub loop-init : goal.loop-init
loop-init g c = record {
  readable = c.in-Ok.ensures.good.0;
  writable = c.in-Ok-echo_piece.ensures.good;
  beats =
      beats_none _ _ _ _ _ c.in-Ok.peer.decoder c.echo_piece.new.decoder c.in-Ok.peer.reads
      c.in-Ok-echo_piece.ensures.ok
      (beats_first _ _ _ _ _ c.in-Ok.peer c.in-Ok.ensures.role c.in-Ok.ensures.received c.in-Ok.ensures.whole
      c.in-Ok-echo.ensures.0);
}

pub returns-in-Err-beat : goal.returns-in-Err-beat
returns-in-Err-beat g c = record {
  blames = search rules;
  echoes =
      ended_beat _ _ _ _ _ _ c.loop.peer.decoder c.beat.new.decoder c.loop.counter c.in-Err-beat.fault
      (omega (arith, c.loop-test.true)) c.in-Err-beat.ensures.lost c.loop.invariant.beats;
}

pub loop-preserved : goal.loop-preserved
loop-preserved g c = record {
  readable = c.in-Ok-beat.ensures.good.0;
  writable = c.in-Ok-beat.ensures.good.1;
  beats =
      beats_round _ _ _ _ _ _ c.loop.peer.decoder c.beat.new.decoder c.loop.counter
      (omega (arith, c.loop-test.true)) c.in-Ok-beat.ensures.ok c.loop.invariant.beats;
}

pub returns : goal.returns
returns g c = record {
  blames = search rules;
  echoes =
      ended_most _ _ _ _ c.loop.peer.decoder c.loop.counter (omega (arith, c.loop-test.false))
      c.loop.invariant.beats;
}
