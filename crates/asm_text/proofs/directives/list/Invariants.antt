use Rattle.std.proofs.Common.{◌≡◌}
use Rattle.asm_syntax.specs.Lexemes.{pieces_of}
use Rattle.asm_lex.specs.Commas.{operands_of, operands_after}
use Rattle.asm_text.specs.Forms.{each_of}
use Rattle.asm_text.proofs.Operands.{joined, pieces_left, count_left}
use Rattle.asm_text.proofs.directives.list.Given as goal

abbrev pub invariant-loop-left : goal.invariant-loop-left
invariant-loop-left g l =
    joined l.list.items (each_of (g.T.Listed.reading l.column) (operands_after (pieces_left l.left)))
    ≡ each_of (g.T.Listed.reading l.column) (operands_of (pieces_of l.tokens))

abbrev pub decreases-loop-left : goal.decreases-loop-left
decreases-loop-left g l = count_left l.left
