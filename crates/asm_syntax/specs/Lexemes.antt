-- What tokens say: names in upper case, keywords, numbers, the characters of strings, signs.
use Rattle.std.specs.Prelude.{ℕ, List, [], ◌∷◌, Option, Some, None, if◌then◌else◌, nat_lt, ◌==◌, length, map}
use Rattle.std.specs.Char.{to_ascii_uppercase}
use Rattle.asm_syntax.specs.declared.token.Token.{Token}
use Rattle.asm_syntax.specs.declared.token.Token.TheVariants as token
use Rattle.asm_syntax.specs.declared.token.Placed.{Placed}
use Rattle.asm_syntax.specs.declared.keyword.Keyword as keyword
use Rattle.asm_syntax.specs.Ascii.{quote}
use Rattle.asm_syntax.specs.Words.{keyword_of}

-- a name in upper case, a keyword, a word that is too long, a number, a string's characters, a sign
pub data Lexeme : Type 0 where
  Name : (name : List ℕ) → Lexeme
  Keyword : (k : keyword.Keyword) → Lexeme
  Overlong : Lexeme
  Number : (n : ℕ) → Lexeme
  Text : (characters : List ℕ) → Lexeme
  Sign : (character : ℕ) → Lexeme

-- the characters of what is between a string's outer quotes: a doubled quote counts once
abbrev pub characters_of : List ℕ → List ℕ
characters_of [] = []
characters_of (c ∷ []) = c ∷ []
characters_of (c ∷ d ∷ rest) =
    if c == quote then c ∷ characters_of rest else c ∷ characters_of (d ∷ rest)

-- a word with a meaning of its own is a keyword, else a name
abbrev pub name_or_keyword : List ℕ → Option keyword.Keyword → Lexeme
name_or_keyword word None = Name word
name_or_keyword word (Some k) = Keyword k

-- a word in upper case: a name has at most 31 characters and is no keyword
abbrev pub word_lexeme : List ℕ → Lexeme
word_lexeme word = if nat_lt 31 (length word) then Overlong else name_or_keyword word (keyword_of word)

-- what a token says
abbrev pub lexeme_of : Token → Lexeme
lexeme_of (token.Name w) = Name (map to_ascii_uppercase w.letters.now)
lexeme_of (token.Keyword k) = Keyword k
lexeme_of token.Overlong = Overlong
lexeme_of (token.Number n) = Number n
lexeme_of (token.Text t) = Text (characters_of t.now)
lexeme_of (token.Sign s) = Sign s

-- a lexeme and the column, from 1, at which it begins
abbrev pub Piece : Type 0
Piece = ℕ × Lexeme

-- what a placed token says, and where
abbrev pub piece_of : Placed → Piece
piece_of p = (p.column, lexeme_of p.token)

-- what placed tokens say
abbrev pub pieces_of : List Placed → List Piece
pieces_of ps = map piece_of ps
