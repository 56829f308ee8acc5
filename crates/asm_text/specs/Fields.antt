-- The fields of a line (8080/8085 Assembly Language Programming Manual, chapter 2, "Assembly language
-- statement format"): a label, an operation's word or a name with EQU or SET, and the operands.
use Rattle.std.specs.Prelude.{ℕ, List, [], ◌∷◌, Option, Some, None, if◌then◌else◌}
use Rattle.asm_syntax.specs.Ascii.{colon}
use Rattle.asm_syntax.specs.Lexemes.{Piece}
use Rattle.asm_lex.specs.Operators.{is_sign}
use Rattle.asm_lex.specs.Commas.{split_commas}
use Rattle.asm_text.specs.declared.lines.Definition.{Definition}
use Rattle.asm_text.specs.Lines.{definition_in}

-- what stands before a colon, and what stands after it
abbrev pub label_field : List Piece → Option Piece × List Piece
label_field (p ∷ q ∷ rest) = if is_sign colon q.1 then (Some p, rest) else (None, p ∷ q ∷ rest)
label_field ps = (None, ps)

-- what stands after the label: nothing; what stands before EQU or SET, the column of that word, and
-- operands; or an operation's word and operands
pub data Field : Type 0 where
  Empty : Field
  Defines : (name : Piece) → (column : ℕ) → (d : Definition) → (operands : List Piece) → Field
  Does : (word : Piece) → (operands : List Piece) → Field

-- by what the second piece is
abbrev pub field_by : Piece → Piece → List Piece → Option Definition → Field
field_by p q rest None = Does p (q ∷ rest)
field_by p q rest (Some d) = Defines p q.0 d rest

-- the field of pieces after the label
abbrev pub field_of : List Piece → Field
field_of [] = Empty
field_of (p ∷ []) = Does p []
field_of (p ∷ q ∷ rest) = field_by p q rest (definition_in q.1)

-- the pieces of its operands
abbrev pub operand_pieces : Field → List Piece
operand_pieces Empty = []
operand_pieces (Defines p column d rest) = rest
operand_pieces (Does p rest) = rest

-- the line's label, its operation and its operands
abbrev pub label_of : List Piece → Option Piece
label_of ps = (label_field ps).0

abbrev pub operation_of : List Piece → Field
operation_of ps = field_of (label_field ps).1

abbrev pub operands_in : Field → List (List Piece)
operands_in f = split_commas (operand_pieces f)
