use Rattle.std.proofs.Common.{sym, ap, ◌∙◌, Ok}
use Rattle.std.proofs.lemmas.Result.{err_from_is_err_and}
use Rattle.asm_syntax.specs.Lexemes.{pieces_of}
use Rattle.asm_lex.specs.Commas.{operands_of}
use Rattle.asm_text.specs.Forms.{each_of}
use Rattle.asm_text.proofs.Operands.{each_goes, each_fails, each_done}
use Rattle.asm_text.proofs.directives.list.Goals as goal

pub returns-in_err-read : goal.returns-in_err-read
returns-in_err-read g c =
    let p = err_from_is_err_and c.from_residual.result c.from_residual.ensures.1 in
    let left = rw (c.in-Some.is, c.next_operand.ensures.operands) at c.loop-left.invariant in
    rw (p.1, p.2) (each_fails _ (g.T.Listed.reading c.args.column) c.loop-left.list.items _ _
    (each_of (g.T.Listed.reading c.args.column) (operands_of (pieces_of c.args.tokens.now)))
    c.in_err-read.ensures
    left)

pub loop-left-preserved : goal.loop-left-preserved
loop-left-preserved g c =
    let left = rw (c.in-Some.is, c.next_operand.ensures.operands) at c.loop-left.invariant in
    rw c.in_ok-push.ensures.items (sym
    (each_goes (g.T.Listed.reading c.args.column) c.loop-left.list.items _ _ c.in_ok-read.field-0
    c.in_ok-read.ensures) ∙ left)

pub returns : goal.returns
returns g c =
    let left = rw c.in_default.is at c.loop-left.invariant in
    sym left ∙ each_done (g.T.Listed.reading c.args.column) c.loop-left.list.items
    ∙ ap Ok (sym c.from.ensures)
