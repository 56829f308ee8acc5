-- The operators of expressions, how strongly they bind, and what stands for itself (8080/8085
-- Assembly Language Programming Manual, chapter 2, "Operand field").
use Rattle.std.specs.Prelude.{ℕ, ◌+◌, ◌*◌, List, [], ◌∷◌, Bool, false, Option, Some, None, if◌then◌else◌}
use Rattle.std.specs.Prelude.{◌==◌, map}
use Rattle.asm_expr.specs.Tree as tree
use Rattle.asm_expr.specs.declared.expression.Unary.{Unary}
use Rattle.asm_expr.specs.declared.expression.Unary.TheVariants as unary
use Rattle.asm_expr.specs.declared.expression.Binary.{Binary}
use Rattle.asm_expr.specs.declared.expression.Binary.TheVariants as binary
use Rattle.asm_syntax.specs.declared.keyword.Keyword.TheVariants as keyword
use Rattle.asm_syntax.specs.Ascii.{dollar, asterisk, plus, minus, slash}
use Rattle.asm_syntax.specs.Lexemes.{Lexeme, Name, Keyword, Number, Text, Sign, Piece}

-- the operand of a prefix operator extends over stronger operators
abbrev pub prefix_strength : Unary → ℕ
prefix_strength unary.High = 7
prefix_strength unary.Low = 7
prefix_strength unary.Plus = 5
prefix_strength unary.Minus = 5
prefix_strength unary.Not = 3

-- of two operators the stronger one takes the operand between them; of two equal ones the left
abbrev pub infix_strength : Binary → ℕ
infix_strength binary.Multiply = 6
infix_strength binary.Divide = 6
infix_strength binary.Modulo = 6
infix_strength binary.ShiftLeft = 6
infix_strength binary.ShiftRight = 6
infix_strength binary.Add = 5
infix_strength binary.Subtract = 5
infix_strength binary.Equal = 4
infix_strength binary.NotEqual = 4
infix_strength binary.Less = 4
infix_strength binary.LessOrEqual = 4
infix_strength binary.Greater = 4
infix_strength binary.GreaterOrEqual = 4
infix_strength binary.And = 2
infix_strength binary.Or = 1
infix_strength binary.Xor = 1

-- this character as a sign
abbrev pub is_sign : ℕ → Lexeme → Bool
is_sign character (Sign s) = s == character
is_sign character _ = false

-- the operator that a lexeme is where an operand begins: + and -, HIGH, LOW and NOT
abbrev pub prefix_of : Lexeme → Option Unary
prefix_of (Sign s) =
    if s == plus then Some unary.Plus else (if s == minus then Some unary.Minus else None)
prefix_of (Keyword (keyword.Prefix op)) = Some op
prefix_of _ = None

-- the operator that a lexeme is after an operand: * / + - and words
abbrev pub infix_of : Lexeme → Option Binary
infix_of (Sign s) =
    if s == asterisk then Some binary.Multiply
    else (if s == slash then Some binary.Divide
    else (if s == plus then Some binary.Add
    else (if s == minus then Some binary.Subtract else None)))
infix_of (Keyword (keyword.Infix op)) = Some op
infix_of _ = None

-- an operand without operators: a number, a name, `$`
abbrev pub atom_in : Lexeme → Option tree.Tree
atom_in (Number n) = Some (tree.Number n)
atom_in (Name x) = Some (tree.Named x)
atom_in (Sign s) = if s == dollar then Some tree.Here else None
atom_in _ = None

-- one or two characters are a number, the first one its high byte
abbrev pub number_of : List ℕ → Option ℕ
number_of (c ∷ []) = Some c
number_of (c ∷ d ∷ []) = Some (c * 256 + d)
number_of _ = None

-- a number where there is one, else the lexeme itself
abbrev pub number_or : Lexeme → Option ℕ → Lexeme
number_or l None = l
number_or l (Some n) = Number n

-- a string of one or two characters is a number in an expression
abbrev pub plain : Lexeme → Lexeme
plain (Text characters) = number_or (Text characters) (number_of characters)
plain l = l

-- what pieces say in an expression
abbrev pub symbols : List Piece → List Lexeme
symbols ps = map (λ p. plain p.1) ps
