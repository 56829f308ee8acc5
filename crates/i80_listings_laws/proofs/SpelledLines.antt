-- A line that is spelled, piece by piece.
use Rattle.std.proofs.Common.{ℕ, ◌+◌, List, [], ◌∷◌, ◌++◌, length, refl, ap, ◌∙◌, arith}
use Rattle.asm_syntax.specs.Lexemes.{Lexeme, Sign, Piece}
use Rattle.asm_lex.specs.Spelling.{IsToken, Spells}

pub done : (column : ℕ) → Spells column [] []
done column = (column, [], ([], refl, refl, omega arith), tt)

pub piece : (column : ℕ) (l : Lexeme) (text more : List ℕ) (ps : List Piece) → IsToken l text more
    → Spells (column + length text) ps more
    → Spells column ((column, l) ∷ ps) (text ++ more)
piece column l text more ps token (last, rest, upto, tail) =
    (last, rest, ([], text, more, refl, refl, omega arith, token, upto), tail)

pub blank : (column : ℕ) (p : Piece) (ps : List Piece) (line : List ℕ) → Spells (column + 1) (p ∷ ps) line
    → Spells column (p ∷ ps) (32 ∷ line)
blank column p ps line (last, rest, (blanks, text, more, is, all, at, token, upto), tail) =
    (last, rest, (32 ∷ blanks, text, more, ap (λ cs. 32 ∷ cs) is, all, at ∙ omega arith, token, upto), tail)

pub comma : (rest : List ℕ) → IsToken (Sign 44) (44 ∷ []) rest
comma rest = (refl, refl)
