-- Operands, which commas separate, and operands that are one piece.
use Rattle.std.specs.Prelude.{ℕ, List, [], ◌∷◌, Bool, Option, Some, None, if◌then◌else◌, option_map}
use denote.Ref.{Bor}
use Rattle.asm_syntax.specs.Ascii.{comma}
use Rattle.asm_syntax.specs.Lexemes.{Lexeme, Keyword, Text, Piece, pieces_of}
use Rattle.asm_syntax.specs.declared.token.Placed.{Placed}
use Rattle.asm_syntax.specs.declared.keyword.Keyword.TheVariants as keyword
use Rattle.asm_syntax.specs.declared.keyword.RegisterWord.{RegisterWord}
use Rattle.asm_lex.specs.Operators.{is_sign}

-- the sign between operands
abbrev pub is_comma : Lexeme → Bool
is_comma l = is_sign comma l

-- a piece before the first operand's pieces
abbrev pub onto_first : Piece → List (List Piece) → List (List Piece)
onto_first p [] = (p ∷ []) ∷ []
onto_first p (operand ∷ operands) = (p ∷ operand) ∷ operands

-- one operand more than commas; each may be empty
unfoldable pub operands_of : List Piece → List (List Piece)
operands_of [] = [] ∷ []
operands_of (p ∷ ps) = if is_comma p.1 then [] ∷ operands_of ps else onto_first p (operands_of ps)

-- no pieces are no operands
abbrev pub split_commas : List Piece → List (List Piece)
split_commas [] = []
split_commas (p ∷ ps) = operands_of (p ∷ ps)

-- a piece before the first operand's, where the operands that follow stay
abbrev pub onto_front : Piece → List Piece × Option (List Piece) → List Piece × Option (List Piece)
onto_front p x = (p ∷ x.0, x.1)

-- the pieces before the first comma, and those after it if there is one
unfoldable pub next_operand : List Piece → List Piece × Option (List Piece)
next_operand [] = ([], None)
next_operand (p ∷ ps) = if is_comma p.1 then ([], Some ps) else onto_front p (next_operand ps)

-- the operands after a comma, if there is one
abbrev pub operands_after : Option (List Piece) → List (List Piece)
operands_after None = []
operands_after (Some ps) = operands_of ps

-- the first operand, and those after it
abbrev pub operands_in : List Piece × Option (List Piece) → List (List Piece)
operands_in x = x.0 ∷ operands_after x.1

-- the pieces of the tokens before a comma, and of those after it
abbrev pub pieces_around : Bor (List Placed) × Option (Bor (List Placed)) → List Piece × Option (List Piece)
pieces_around x = (pieces_of x.0.now, option_map (λ rest. pieces_of rest.now) x.1)

-- the operand, where it is the only one
abbrev pub single : List (List Piece) → Option (List Piece)
single (a ∷ []) = Some a
single _ = None

-- the operands, where they are two
abbrev pub pair : List (List Piece) → Option (List Piece × List Piece)
pair (a ∷ b ∷ []) = Some (a, b)
pair _ = None

-- the word of a register or pair
abbrev pub register_in : Lexeme → Option RegisterWord
register_in (Keyword (keyword.Register r)) = Some r
register_in _ = None

-- an operand that is one register or pair word
abbrev pub register_of : List Piece → Option RegisterWord
register_of (p ∷ []) = register_in p.1
register_of _ = None

-- the characters of a string
abbrev pub text_in : Lexeme → Option (List ℕ)
text_in (Text characters) = Some characters
text_in _ = None

-- the characters of an operand that is one string
abbrev pub text_of : List Piece → Option (List ℕ)
text_of (p ∷ []) = text_in p.1
text_of _ = None
