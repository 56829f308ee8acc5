use Rattle.std.proofs.Common.{◌∙◌, ℕ, subst, take, arith}
use Rattle.base_streams.specs.Told.{Gave}
use Rattle.zmtp_wire.specs.declared.peer_fault.PeerFault.TheVariants.{OutOfMemory, PeerEnded, ReadFailed}
use Rattle.lab80_web.proofs.ServeLemmas.{served, reached_first, reached_on, ended_reading, ended_most}
use Rattle.lab80_web.proofs.ServeLemmas.{ended_piece}
use Rattle.lab80_web.proofs.ServeLemmas.{ended_first, handshake_begun, positive}
use Rattle.lab80_web.proofs.serve.serve.Goals as goal

pub returns-in-Err : goal.returns-in-Err
returns-in-Err g c =
    ended_first _ _ _ c.new-decoder.result c.in-Err.fault c.new-decoder.ensures.represents
    c.new-decoder.ensures.role c.requires.readable c.in-Err.ensures.1 c.in-Err.ensures.0

pub returns-in_default : goal.returns-in_default
returns-in_default g c =
    ended_first _ _ _ c.new-decoder.result OutOfMemory c.new-decoder.ensures.represents
    c.new-decoder.ensures.role c.requires.readable c.in-Ok.ensures.1 (handshake_begun _ _ c.in-Ok.ensures.0)

pub loop-init : goal.loop-init
loop-init g c = record {
  readable = c.requires.readable;
  writable = c.in-Ok.ensures.1;
  reached =
      reached_first _ _ _ c.new-decoder.result c.in-Ok-new.kernel c.new-decoder.ensures.represents
      c.new-decoder.ensures.role c.new-decoder.ensures.fault c.in-Ok-new.ensures c.in-Ok.ensures.0;
}

pub returns-in-Ok-eq0 : goal.returns-in-Ok-eq0
returns-in-Ok-eq0 g c =
    let i = c.loop.invariant in
    let P : ℕ → Type 0 = λ n. Gave (g.I.Inlet.state c.loop.from) (g.I.Inlet.state c.read.new.self)
    (take n c.read.new.buffer) in
    ended_reading (g.I.Inlet.state c.args.from.now) (g.I.Inlet.state c.loop.from)
    (g.I.Inlet.state c.read.new.self) (g.W.Outlet.state c.args.to.now)
    (served c.loop.decoder c.loop.kernel (g.W.Outlet.state c.loop.to)) c.loop.counter
    PeerEnded (subst P c.in-Ok-eq0.field-0-test c.in-Ok-eq0.ensures.given) c.read.ensures.reads i.writable
    (c.in-Ok-eq0.ensures.ended.1 c.in-Ok-eq0.field-0-test, c.in-Ok-eq0.ensures.failed ∙ i.readable.1)
    i.reached

pub returns-in-Err-read : goal.returns-in-Err-read
returns-in-Err-read g c =
    let i = c.loop.invariant in
    ended_reading (g.I.Inlet.state c.args.from.now) (g.I.Inlet.state c.loop.from)
    (g.I.Inlet.state c.read.new.self) (g.W.Outlet.state c.args.to.now)
    (served c.loop.decoder c.loop.kernel (g.W.Outlet.state c.loop.to)) c.loop.counter
    ReadFailed c.in-Err-read.ensures.given c.read.ensures.reads i.writable
    (c.in-Err-read.ensures.ended ∙ i.readable.0, c.in-Err-read.ensures.failed) i.reached

pub returns-in-Err-take_piece : goal.returns-in-Err-take_piece
returns-in-Err-take_piece g c =
    let i = c.loop.invariant in
    let some = positive c.in-Ok-read.count c.in-Ok-read.count-test.1 in
    ended_piece (g.I.Inlet.state c.args.from.now) (g.I.Inlet.state c.loop.from)
    (g.I.Inlet.state c.read.new.self) (g.W.Outlet.state c.args.to.now)
    (served c.loop.decoder c.loop.kernel (g.W.Outlet.state c.loop.to))
    (served c.take_piece.new.decoder c.take_piece.new.kernel (g.W.Outlet.state c.take_piece.new.to))
    c.loop.counter _ c.in-Err-take_piece.fault c.in-Ok-read.ensures.given
    (c.in-Ok-read.ensures.ended.0 some ∙ i.readable.0, c.in-Ok-read.ensures.failed ∙ i.readable.1) i.reached
    (c.in-Err-take_piece.ensures.takes _ i.reached.represents)

pub loop-preserved : goal.loop-preserved
loop-preserved g c =
    let i = c.loop.invariant in
    let some = positive c.in-Ok-read.count c.in-Ok-read.count-test.1 in
    record {
      readable = (
        c.in-Ok-read.ensures.ended.0 some ∙ i.readable.0,
        c.in-Ok-read.ensures.failed ∙ i.readable.1,
      );
      writable = c.in-Ok-take_piece.ensures.good;
      reached =
          reached_on (g.I.Inlet.state c.args.from.now) (g.I.Inlet.state c.loop.from)
          (g.I.Inlet.state c.read.new.self) (g.W.Outlet.state c.args.to.now)
          (served c.loop.decoder c.loop.kernel (g.W.Outlet.state c.loop.to))
          (served c.take_piece.new.decoder c.take_piece.new.kernel (g.W.Outlet.state c.take_piece.new.to))
          c.loop.counter _ c.in-Ok-read.ensures.given c.read.ensures.reads i.reached
          (c.in-Ok-take_piece.ensures.takes _ i.reached.represents);
    }

pub returns : goal.returns
returns g c =
    let i = c.loop.invariant in
    ended_most _ _ _ (served c.loop.decoder c.loop.kernel (g.W.Outlet.state c.loop.to)) c.loop.counter
    (omega arith) i.readable i.writable i.reached
