use Rattle.std.proofs.Common.{arith, sym, ap, [], ◌∷◌, length, length-append}
use Rattle.std.proofs.lemmas.Result.{err_from_is_err_and}
use Rattle.asm_text.specs.Statements.{statements_from, texts_of}
use Rattle.asm_text.proofs.Texts.{line_goes, line_ends, line_fails, lines_end}
use Rattle.asm_text.proofs.statements.statements_on.Goals as goal

pub returns-in_err-statement : goal.returns-in_err-statement
returns-in_err-statement c =
    let p = err_from_is_err_and c.from_residual.result c.from_residual.ensures.1 in
    rw (p.1, p.2) (line_fails c.in_err-statement.field-0.0 c.loop-index.statements c.args.lines.now
    c.loop-index.index _ c.loop-index.ifs (statements_from 1 [] (texts_of c.args.lines.now)) (omega arith)
    c.in_err-statement.ensures c.loop-index.invariant.reads)

pub returns-then-is_last : goal.returns-then-is_last
returns-then-is_last c =
    let ended =
    line_ends c.loop-index.statements c.args.lines.now c.loop-index.index _ c.loop-index.ifs _
    c.in_ok-statement.statement (statements_from 1 [] (texts_of c.args.lines.now)) (omega arith)
    c.in_ok-statement.ensures (sym c.if-is_last.ensures) c.loop-index.invariant.reads in
    rw (← ended) (rw c.in_ok-push.ensures.ok at c.end.ensures)

pub loop-index-preserved : goal.loop-index-preserved
loop-index-preserved c = record {
  reads =
      rw c.in_ok-push.ensures.ok (line_goes c.loop-index.statements c.args.lines.now c.loop-index.index _
      c.loop-index.ifs _ c.in_ok-statement.statement (statements_from 1 [] (texts_of c.args.lines.now))
      (omega arith) c.in_ok-statement.ensures (sym c.if-is_last.ensures) c.loop-index.invariant.reads);
  count =
      let grown = ap length c.in_ok-push.ensures.ok in
      omega (
        arith,
        grown,
        length-append c.loop-index.statements (c.in_ok-statement.statement ∷ []),
        c.loop-index.invariant.count,
      );
}

pub returns : goal.returns
returns c =
    let ended =
    lines_end c.loop-index.statements c.args.lines.now c.loop-index.index c.loop-index.ifs
    (statements_from 1 [] (texts_of c.args.lines.now)) (omega arith) c.loop-index.invariant.reads in
    rw (← ended) c.end-2.ensures
