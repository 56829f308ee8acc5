-- Expressions of the assembler with reads of memory (8080/8085 Assembly Language Programming Manual,
-- chapter 2, "Operand field").
use Rattle.std.specs.Prelude.{ℕ, max, List, Result, Ok}
use Rattle.asm_syntax.specs.Lexemes.{Piece}
use Rattle.asm_syntax.specs.Outcome.{Fault, ◌>>=◌}
use Rattle.asm_lex.specs.Climb.{expression, first_column}
use Rattle.asm_text.specs.Lines.{placed_well}
use Rattle.dap_expr.specs.declared.term.Term.{Term}
use Rattle.dap_expr.specs.Brackets.{taken_out}

-- the column at which pieces begin, and 1 where there are none
abbrev pub column_of : List Piece → ℕ
column_of ps = max 1 (first_column ps)

-- the expression that pieces in the assembler's form are, but for brackets
unfoldable pub term_in : List Piece → Result Term Fault
term_in ps = do
  placed ← placed_well ps
  f ← taken_out placed
  operand ← expression (column_of f.0) f.0
  Ok (record { reads = f.1; tree = operand.expr })
