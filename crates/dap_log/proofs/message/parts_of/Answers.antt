use Rattle.std.proofs.Common.{rules, arith, ◌≡◌, ◌+◌, ◌-◌, ◌<◌, length, drop, sym, ap, ◌∙◌, refl, Ok}
use Rattle.std.proofs.lemmas.Result.{err_from_is_err_and}
use Rattle.dap_log.specs.Pieces.{pieces_of, piece_of, piece_at, spelling}
use Rattle.dap_log.specs.Messages.{part_of, parts_of}
use Rattle.dap_log.proofs.ReadLemmas.{at_end, at_part, at_fault, fails}
use Rattle.dap_log.proofs.SpellingLemmas.{front_len}
use Rattle.dap_log.proofs.message.parts_of.Goals as goal

pub returns-in_err-part : goal.returns-in_err-part
returns-in_err-part c =
    let p = err_from_is_err_and c.from_residual.result c.from_residual.ensures.1 in
    let left = c.loop-left.left.now in
    let column = length c.args.text.now - length left + 1 in
    let total = parts_of (pieces_of c.args.text.now) in
    rw (p.1, p.2) (fails c.in_err-part.field-0.0 (part_of (column, piece_of c.piece_at.result.piece)) total
    c.in_err-part.ensures (λ read. at_fault c.loop-left.parts column left total c.in_err-part.field-0.0
    (search rules) (read ∙ ap (λ q. part_of (column, q)) c.piece_at.ensures.piece.piece)
    c.loop-left.invariant.goes_on))

pub loop-left-preserved : goal.loop-left-preserved
loop-left-preserved c =
    let text = c.args.text.now in
    let left = c.loop-left.left.now in
    let rest = c.piece_at.result.rest.now in
    let column = length text - length left + 1 in
    let n = length (spelling (piece_at left)) in
    let some : 0 < length left = search rules in
    let after : rest ≡ drop n left = c.piece_at.ensures.piece.rest in
    let shorter : length rest < length left = c.piece_at.ensures.less in
    let len : n + length rest ≡ length left = ap (λ t. n + length t) after ∙ front_len left some in
    let read : part_of (column, piece_at left) ≡ Ok c.in_ok-part.part =
    ap (λ q. part_of (column, q)) (sym c.piece_at.ensures.piece.piece) ∙ sym c.in_ok-part.ensures in
    let next : column + n ≡ length text - length rest + 1 =
    omega (arith, len, c.loop-left.invariant.within) in
    record {
      text = search rules;
      within = omega (arith, shorter, c.loop-left.invariant.within);
      goes_on =
          rw (c.in_ok-push.ensures.ok, sym next, after) (at_part c.loop-left.parts column left
          (parts_of (pieces_of text)) c.in_ok-part.part n some refl (omega (arith, len, shorter)) read
          c.loop-left.invariant.goes_on);
    }

pub returns : goal.returns
returns c =
    at_end c.loop-left.parts _ c.loop-left.left.now (parts_of (pieces_of c.args.text.now)) (search rules)
    c.loop-left.invariant.goes_on
