-- The shape of an expression: operands with operators before and between them, and parentheses.
use Rattle.std.specs.Prelude.{ℕ, zero, suc, List, [], ◌∷◌, Bool, true, false, Option, Some, None}
use Rattle.std.specs.Prelude.{if◌then◌else◌, is_some}
use Rattle.asm_syntax.specs.Ascii.{open_parenthesis, close_parenthesis}
use Rattle.asm_syntax.specs.Lexemes.{Lexeme, Piece}
use Rattle.asm_lex.specs.Operators.{is_sign, prefix_of, infix_of, atom_in, symbols}
use Rattle.asm_lex.specs.declared.shape.Place.{Place}
use Rattle.asm_lex.specs.declared.shape.Place.TheVariants.{BeforeOperand, AfterOperand}

-- the place after a closing parenthesis, if one is open
abbrev pub closing : ℕ → Option Place
closing zero = None
closing (suc opened) = Some (AfterOperand opened)

-- the place after a lexeme, if it is allowed here
abbrev pub next_place : Place → Lexeme → Option Place
next_place (BeforeOperand opened) l =
    if is_some (prefix_of l) then Some (BeforeOperand opened)
    else (if is_sign open_parenthesis l then Some (BeforeOperand (suc opened))
    else (if is_some (atom_in l) then Some (AfterOperand opened) else None))
next_place (AfterOperand opened) l =
    if is_some (infix_of l) then Some (BeforeOperand opened)
    else (if is_sign close_parenthesis l then closing opened else None)

-- an expression ends after an operand, with no parenthesis opened
abbrev pub is_end : Place → Bool
is_end (AfterOperand zero) = true
is_end _ = false

-- from this place lexemes lead to an expression's end
unfoldable pub shape : Option Place → List Lexeme → Bool
shape None ls = false
shape (Some place) [] = is_end place
shape (Some place) (l ∷ ls) = shape (next_place place l) ls

-- pieces have the shape of an expression
abbrev pub is_expression : List Piece → Bool
is_expression ps = shape (Some (BeforeOperand 0)) (symbols ps)

-- the number of open parentheses
abbrev pub opened_in : Place → ℕ
opened_in (BeforeOperand opened) = opened
opened_in (AfterOperand opened) = opened
