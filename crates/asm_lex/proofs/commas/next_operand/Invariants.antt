use Rattle.std.proofs.Common.{◌≡◌}
use Rattle.asm_syntax.specs.Lexemes.{pieces_of}
use Rattle.asm_lex.specs.Commas.{next_operand}
use Rattle.asm_lex.proofs.Operands.{front_is}
use Rattle.asm_lex.proofs.commas.next_operand.Given as goal

abbrev pub invariant-loop-i : goal.invariant-loop-i
invariant-loop-i l = front_is l.tokens l.i ≡ next_operand (pieces_of l.tokens)
