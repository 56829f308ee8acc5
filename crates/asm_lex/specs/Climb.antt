-- The tree of an expression, by the strength of its operators.
use Rattle.std.specs.Prelude.{ℕ, zero, suc, ◌+◌, List, [], ◌∷◌, Option, Some, None, Result, Ok, Err}
use Rattle.std.specs.Prelude.{if◌then◌else◌, nat_lt, nat_le}
use Rattle.asm_expr.specs.Tree.{Tree, Prefix, Infix, Parens, depth_of}
use Rattle.asm_expr.specs.declared.expression.Unary.{Unary}
use Rattle.asm_expr.specs.declared.expression.Binary.{Binary}
use Rattle.asm_expr.specs.declared.expression.TreeFault.{TreeFault}
use Rattle.asm_expr.specs.declared.expression.TreeFault.TheVariants as maker
use Rattle.asm_syntax.specs.declared.fault.FaultKind.TheVariants as kind
use Rattle.asm_syntax.specs.declared.fault.LineFault.{LineFault}
use Rattle.asm_syntax.specs.declared.fault.LineFault.TheVariants as line
use Rattle.asm_syntax.specs.declared.statement.Operand.{Operand}
use denote.Ref.{Bor}
use Rattle.asm_syntax.specs.declared.token.Placed.{Placed}
use Rattle.asm_syntax.specs.Ascii.{open_parenthesis, close_parenthesis}
use Rattle.asm_syntax.specs.Lexemes.{Lexeme, Piece, pieces_of}
use Rattle.asm_syntax.specs.Outcome.{Fault, ◌>>=◌}
use Rattle.asm_lex.specs.Operators.{prefix_strength, infix_strength, is_sign, prefix_of, infix_of}
use Rattle.asm_lex.specs.Operators.{atom_in, symbols}
use Rattle.asm_lex.specs.Shape.{is_expression}

-- a tree and what is after it
abbrev pub Found : Type 0
Found = Result (Tree × List Lexeme) Fault

-- a tree, if it isn't too deep. `first` is the column at which the operand begins
unfoldable pub tree_or_nesting : ℕ → Tree → Result Tree Fault
tree_or_nesting first t = if nat_le (depth_of t) 64 then Ok t else Err (first, kind.Nesting)

-- the expression in parentheses, after which the closing one must be
unfoldable pub after_parenthesis : ℕ → Tree → List Lexeme → Found
after_parenthesis first a [] = Err (first, kind.Operands)
after_parenthesis first a (l ∷ rest) =
    if is_sign close_parenthesis l
    then (do
      t ← tree_or_nesting first (Parens a)
      Ok (t, rest))
    else Err (first, kind.Operands)

-- the operand of a prefix operator extends over stronger operators
abbrev pub prefix_operation : ℕ → (ℕ → List Lexeme → Found) → Unary → List Lexeme → Found
prefix_operation first expr op rest = do
  a ← expr (prefix_strength op + 1) rest
  t ← tree_or_nesting first (Prefix op a.0)
  Ok (t, a.1)

-- an atom, or no operand at all
abbrev pub atom_or_none : ℕ → Option Tree → List Lexeme → Found
atom_or_none first None rest = Err (first, kind.Operands)
atom_or_none first (Some t) rest = Ok (t, rest)

-- an operand by its first lexeme, which is a prefix operator or none
abbrev pub operand_by : ℕ → (ℕ → List Lexeme → Found) → Option Unary → Lexeme → List Lexeme → Found
operand_by first expr (Some op) l rest = prefix_operation first expr op rest
operand_by first expr None l rest =
    if is_sign open_parenthesis l
    then (do
      a ← expr 0 rest
      after_parenthesis first a.0 a.1)
    else atom_or_none first (atom_in l) rest

-- an operand, where `expr level` reads what is inside of one
unfoldable pub operand_at : ℕ → (ℕ → List Lexeme → Found) → List Lexeme → Found
operand_at first expr [] = Err (first, kind.Operands)
operand_at first expr (l ∷ rest) = operand_by first expr (prefix_of l) l rest

-- the operator at the front, if it is at least as strong as the level
abbrev pub strong : ℕ → Option Binary → Option Binary
strong level None = None
strong level (Some op) = if nat_lt (infix_strength op) level then None else Some op

-- and the lexemes after it
abbrev pub infix_at : ℕ → List Lexeme → Option (Binary × List Lexeme)
infix_at level [] = None
infix_at level (l ∷ rest) = with_rest (strong level (infix_of l))
  where
    with_rest : Option Binary → Option (Binary × List Lexeme)
    with_rest None = None
    with_rest (Some op) = Some (op, rest)

-- an operator and its right operand, which holds stronger ones only, then `next` with the tree
abbrev pub infix_operation : ℕ → (ℕ → List Lexeme → Found) → Tree → List Lexeme
    → (Tree → List Lexeme → Found) → Option (Binary × List Lexeme) → Found
infix_operation first expr a ls next None = Ok (a, ls)
infix_operation first expr a ls next (Some x) = do
  b ← expr (infix_strength x.0 + 1) x.1
  t ← tree_or_nesting first (Infix x.0 a b.0)
  next t b.1

-- operators at least as strong as the level, associated to the left, fewer than `count` of them
unfoldable pub chain : ℕ → (ℕ → List Lexeme → Found) → ℕ → ℕ → Tree → List Lexeme → Found
chain first expr zero level a ls = Err (first, kind.Nesting)
chain first expr (suc count) level a ls =
    infix_operation first expr a ls (chain first expr count level) (infix_at level ls)

-- the expression at the front whose operators are at least as strong as the level, with at most `n`
-- expressions nested in it
unfoldable pub expr_at : ℕ → ℕ → ℕ → List Lexeme → Found
expr_at first zero level ls = Err (first, kind.Nesting)
expr_at first (suc n) level ls = do
  a ← operand_at first (expr_at first n) ls
  chain first (expr_at first n) 65 level a.0 a.1

-- the column at which pieces begin
abbrev pub first_column : List Piece → ℕ
first_column [] = 0
first_column (p ∷ ps) = p.0

-- the operand, where its tree leaves no lexeme
abbrev pub whole : ℕ → ℕ → Tree × List Lexeme → Result Operand Fault
whole column first (t, []) = Ok (record { column = first; expr = t })
whole column first (t, l ∷ rest) = Err (column, kind.Operands)

-- the operand that pieces are, for an operation at this column
unfoldable pub expression : ℕ → List Piece → Result Operand Fault
expression column ps =
    if is_expression ps
    then (do
      read ← expr_at (first_column ps) 64 0 (symbols ps)
      whole column (first_column ps) read)
    else Err (column, kind.Operands)

-- why there is no tree, at a column
abbrev pub fault_at : ℕ → TreeFault → LineFault
fault_at column maker.OutOfMemory = line.OutOfMemory
fault_at column maker.Nesting = line.At column kind.Nesting

-- an expression and the tokens after it
abbrev pub expression_and_rest : Tree × Bor (List Placed) → Tree × List Lexeme
expression_and_rest x = (x.0, symbols (pieces_of x.1.now))
