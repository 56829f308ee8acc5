use Rattle.std.proofs.Common.{◌≡◌}
use Rattle.std.specs.List.{list_all}
use Rattle.asm_syntax.specs.Lexemes.{pieces_of}
use Rattle.asm_lex.specs.Commas.{operands_of, operands_after}
use Rattle.asm_text.proofs.Operands.{pieces_left, count_left}
use Rattle.asm_text.proofs.directives.all_fit.Given as goal

abbrev pub invariant-loop-left : goal.invariant-loop-left
invariant-loop-left g l =
    list_all g.T.Listed.fits (operands_after (pieces_left l.left))
    ≡ list_all g.T.Listed.fits (operands_of (pieces_of l.tokens))

abbrev pub decreases-loop-left : goal.decreases-loop-left
decreases-loop-left g l = count_left l.left
