-- When a tree is the one that lexemes spell, however they are read.
use Rattle.std.specs.Prelude.{◌≡◌, ℕ, ◌<◌, ◌≤◌, List, [], ◌∷◌, ◌++◌, Some, Result, Ok, Err, if◌then◌else◌}
use Rattle.std.specs.Prelude.{nat_le, min}
use Rattle.asm_expr.specs.Tree as tree
use Rattle.asm_syntax.specs.declared.fault.FaultKind.TheVariants as kind
use Rattle.asm_syntax.specs.declared.statement.Operand.{Operand}
use Rattle.asm_syntax.specs.Ascii.{dollar, open_parenthesis, close_parenthesis}
use Rattle.asm_syntax.specs.Lexemes.{Lexeme, Name, Number, Sign, Piece}
use Rattle.asm_syntax.specs.Outcome.{Fault}
use Rattle.asm_lex.specs.Operators.{prefix_strength, infix_strength, prefix_of, infix_of, symbols}

-- lexemes spell a tree: an atom by itself, an operator before its operand or between its operands,
-- and parentheses around what is inside
abbrev pub Spells : tree.Tree → List Lexeme → Type 0
Spells (tree.Number n) ls = ls ≡ Number n ∷ []
Spells tree.Here ls = ls ≡ Sign dollar ∷ []
Spells (tree.Named x) ls = ls ≡ Name x ∷ []
Spells (tree.Prefix op a) ls =
    (l : Lexeme) × (rest : List Lexeme) × (ls ≡ l ∷ rest) × (prefix_of l ≡ Some op) × Spells a rest
Spells (tree.Infix op a b) ls =
    (left : List Lexeme) × (l : Lexeme) × (right : List Lexeme) × (ls ≡ left ++ (l ∷ right))
    × (infix_of l ≡ Some op) × Spells a left × Spells b right
Spells (tree.Parens a) ls =
    (inner : List Lexeme)
    × (ls ≡ Sign open_parenthesis ∷ (inner ++ (Sign close_parenthesis ∷ [])))
    × Spells a inner

-- the weakest operator that could take an operand from the left of a tree, 8 where there is none
abbrev pub weakest_left : tree.Tree → ℕ
weakest_left (tree.Infix op a b) = min (infix_strength op) (weakest_left a)
weakest_left _ = 8

-- the same from the right
abbrev pub weakest_right : tree.Tree → ℕ
weakest_right (tree.Prefix op a) = min (prefix_strength op) (weakest_right a)
weakest_right (tree.Infix op a b) = min (infix_strength op) (weakest_right b)
weakest_right _ = 8

-- each operand lies between the operators that take it by their strength: on its right an operator
-- has stronger ones only, on its left none that is weaker
abbrev pub IsProper : tree.Tree → Type 0
IsProper (tree.Prefix op a) = (prefix_strength op < weakest_left a) × IsProper a
IsProper (tree.Infix op a b) =
    (infix_strength op ≤ weakest_right a) × (infix_strength op < weakest_left b)
    × IsProper a × IsProper b
IsProper (tree.Parens a) = IsProper a
IsProper _ = Unit {0}

-- a tree is the one that pieces spell
abbrev pub IsTreeOf : tree.Tree → List Piece → Type 0
IsTreeOf t ps = Spells t (symbols ps) × IsProper t

-- the operand with this tree, unless it is deeper than 64
abbrev pub within_depth : ℕ → tree.Tree → Result Operand Fault
within_depth first t =
    if nat_le (tree.depth_of t) 64
    then Ok (record { column = first; expr = t })
    else Err (first, kind.Nesting)
