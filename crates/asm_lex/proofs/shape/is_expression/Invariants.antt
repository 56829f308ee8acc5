use Rattle.std.proofs.Common.{◌≡◌, ◌≤◌, drop, Some}
use Rattle.asm_syntax.specs.Lexemes.{pieces_of}
use Rattle.asm_lex.specs.Operators.{symbols}
use Rattle.asm_lex.specs.Shape.{shape, opened_in, is_expression}
use Rattle.asm_lex.proofs.shape.is_expression.Given as goal

abbrev pub invariant-loop-piece : goal.invariant-loop-piece
invariant-loop-piece l = record {
  few : opened_in l.place ≤ l.piece-index;
  same : shape (Some l.place) (symbols (pieces_of (drop l.piece-index l.operand)))
      ≡ is_expression (pieces_of l.operand);
}
