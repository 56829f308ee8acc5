use Rattle.std.proofs.Common.{◌≡◌, ◌+◌, ◌*◌, ◌-◌}
use Rattle.asm_syntax.specs.Lexemes.{pieces_of}
use Rattle.asm_lex.specs.Operators.{symbols}
use Rattle.asm_lex.specs.Climb.{chain, expr_at}
use Rattle.asm_lex.proofs.expression.+climb.Given as goal

abbrev pub decreases-operand_at : goal.decreases-operand_at
decreases-operand_at l = l.n * 100 + 1

abbrev pub decreases-expr_at : goal.decreases-expr_at
decreases-expr_at l = l.n * 100

abbrev pub invariant-expr_at-loop : goal.invariant-expr_at-loop
invariant-expr_at-loop l =
    chain l.first (expr_at l.first (l.n - 1)) (65 - l.counter) l.level l.left (symbols (pieces_of l.rest))
    ≡ expr_at l.first l.n l.level (symbols (pieces_of l.tokens))
