-- How a line is spelled: which lines have these tokens, and which have none.
use Rattle.std.specs.Prelude.{◌≡◌, ℕ, ◌+◌, ◌<◌, ◌≤◌, List, [], ◌∷◌, ◌++◌, length, map, Some, None}
use Rattle.std.specs.Prelude.{Bool, true, false, if◌then◌else◌, not, ◌&&◌, ◌||◌, ◌==◌}
use Rattle.std.specs.List.{list_all}
use Rattle.std.specs.Char.{to_ascii_uppercase, is_ascii_digit, is_ascii_alphanumeric}
use Rattle.asm_syntax.specs.declared.fault.FaultKind.{FaultKind}
use Rattle.asm_syntax.specs.declared.fault.FaultKind.TheVariants as kind
use Rattle.asm_syntax.specs.Ascii.{space, quote, semicolon}
use Rattle.asm_syntax.specs.Lexemes.{Lexeme, Name, Keyword, Overlong, Number, Text, Sign, Piece, word_lexeme}
use Rattle.asm_syntax.specs.Outcome.{Fault}
use Rattle.asm_lex.specs.Characters.{is_blank, is_word_part, is_printed}
use Rattle.asm_lex.specs.Numbers.{number_of}

-- a character that passes is at the front
abbrev pub Begins : (ℕ → Bool) → List ℕ → Type 0
Begins p [] = ⊥
Begins p (b ∷ rest) = p b ≡ true

-- no character that passes is at the front
abbrev pub Stops : (ℕ → Bool) → List ℕ → Type 0
Stops p [] = Unit {0}
Stops p (b ∷ rest) = p b ≡ false

-- a span of characters that pass, as long as it can be before the rest
pub record IsSpan (p : ℕ → Bool) (text rest : List ℕ) : Type 0 where
  pub all : list_all p text ≡ true
  pub ends : Stops p rest

-- letters, digits, ? and @, the first no digit
pub record IsWord (word : Lexeme) (text rest : List ℕ) : Type 0 where
  pub begins : Begins (λ b. not (is_ascii_digit b)) text
  pub span : IsSpan is_word_part text rest
  pub says : word_lexeme (map to_ascii_uppercase text) ≡ word

-- letters and digits, the first a digit
pub record IsDigits (text rest : List ℕ) : Type 0 where
  pub begins : Begins is_ascii_digit text
  pub span : IsSpan is_ascii_alphanumeric text rest

-- the character around strings
abbrev pub is_quote : ℕ → Bool
is_quote b = b == quote

-- characters with each quote doubled
abbrev pub with_quotes_doubled : List ℕ → List ℕ
with_quotes_doubled [] = []
with_quotes_doubled (c ∷ cs) = (if is_quote c then quote ∷ [] else []) ++ (c ∷ with_quotes_doubled cs)

-- from 1 to 128 characters between quotes
pub record IsString (cs text rest : List ℕ) : Type 0 where
  pub quoted : text ≡ quote ∷ (with_quotes_doubled cs ++ quote ∷ [])
  pub ends : Stops is_quote rest
  pub printed : list_all is_printed cs ≡ true
  pub some : 0 < length cs
  pub most : length cs ≤ 128

-- a character that is a token by itself
abbrev pub is_sign : ℕ → Bool
is_sign b = is_printed b && not (is_word_part b || (b == space || (b == quote || b == semicolon)))

-- the text spells the token, where rest follows it
abbrev pub IsToken : Lexeme → List ℕ → List ℕ → Type 0
IsToken (Name n) text rest = IsWord (Name n) text rest
IsToken (Keyword k) text rest = IsWord (Keyword k) text rest
IsToken Overlong text rest = IsWord Overlong text rest
IsToken (Number n) text rest = IsDigits text rest × (number_of text ≡ Some n)
IsToken (Text cs) text rest = IsString cs text rest
IsToken (Sign s) text rest = (text ≡ s ∷ []) × (is_sign s ≡ true)

-- the line, from this column on, has these tokens, blanks before each, and then the rest, which
-- begins at the column last
abbrev pub SpellsUpTo : ℕ → List Piece → List ℕ → ℕ → List ℕ → Type 0
SpellsUpTo column [] line last rest =
    (blanks : List ℕ)
    × (line ≡ blanks ++ rest)
    × (list_all is_blank blanks ≡ true)
    × (last ≡ column + length blanks)
SpellsUpTo column (p ∷ ps) line last rest =
    (blanks : List ℕ) × (text : List ℕ) × (more : List ℕ)
    × (line ≡ blanks ++ (text ++ more))
    × (list_all is_blank blanks ≡ true)
    × (p.0 ≡ column + length blanks)
    × IsToken p.1 text more
    × SpellsUpTo (p.0 + length text) ps more last rest

-- nothing, or a comment
abbrev pub IsTail : List ℕ → Type 0
IsTail [] = Unit {0}
IsTail (b ∷ rest) = b ≡ semicolon

-- the line has these tokens and no more
abbrev pub Spells : ℕ → List Piece → List ℕ → Type 0
Spells column ps line =
    (last : ℕ) × (rest : List ℕ) × SpellsUpTo column ps line last rest × IsTail rest

-- this is what is wrong at the front
abbrev pub IsWrong : FaultKind → List ℕ → Type 0
IsWrong kind.Character line = Begins (λ b. not (is_blank b || is_printed b)) line
IsWrong kind.Number line =
    (text : List ℕ) × (rest : List ℕ)
    × (line ≡ text ++ rest)
    × IsDigits text rest
    × (number_of text ≡ None)
IsWrong kind.Text line =
    Begins is_quote line
    × ((cs text rest : List ℕ) → line ≡ text ++ rest → IsString cs text rest → ⊥)
IsWrong other line = ⊥

-- the line has tokens up to a fault
abbrev pub Breaks : ℕ → List ℕ → Fault → Type 0
Breaks column line f =
    (ps : List Piece) × (rest : List ℕ) × SpellsUpTo column ps line f.0 rest × IsWrong f.1 rest
