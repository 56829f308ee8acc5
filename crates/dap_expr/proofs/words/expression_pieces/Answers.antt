use Rattle.std.proofs.Common.{sym, ◌∙◌, arith}
use Rattle.asm_syntax.specs.Lexemes.{pieces_of}
use Rattle.dap_expr.proofs.WordLemmas.{extended_end}
use Rattle.dap_expr.proofs.words.expression_pieces.Goals as goal

pub returns : goal.returns
returns c =
    sym (extended_end c.args.tokens.now c.loop-index.index (pieces_of c.loop-index.found.items) (omega arith))
    ∙ c.loop-index.invariant.same
