use Rattle.std.proofs.Common.{◌≡◌, drop}
use Rattle.asm_syntax.specs.Lexemes.{pieces_of}
use Rattle.asm_lex.specs.Words.{misplaced_from, misplaced_word}
use Rattle.asm_lex.proofs.words.misplaced_word.Given as goal

abbrev pub invariant-loop-i : goal.invariant-loop-i
invariant-loop-i l =
    misplaced_from l.begins_operand l.begins_atom (pieces_of (drop l.i l.operands))
    ≡ misplaced_word (pieces_of l.operands)
