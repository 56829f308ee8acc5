-- The tokens of a line.
use Rattle.std.specs.Prelude.{ℕ, zero, suc, ◌+◌, ◌-◌, List, [], ◌∷◌, length, map, take}
use Rattle.std.specs.Prelude.{Option, Some, None, Result, Ok, Err, if◌then◌else◌, ◌==◌}
use Rattle.std.specs.List.{take_while}
use Rattle.std.specs.Char.{to_ascii_uppercase, is_ascii_digit, is_ascii_alphanumeric}
use Rattle.asm_syntax.specs.declared.fault.FaultKind.{FaultKind}
use Rattle.asm_syntax.specs.declared.fault.FaultKind.TheVariants as kind
use Rattle.asm_syntax.specs.declared.token.Token.{Token}
use Rattle.asm_syntax.specs.Ascii.{quote, semicolon}
use Rattle.asm_syntax.specs.Lexemes.{Lexeme, Number, Text, Sign, Piece, word_lexeme, lexeme_of, characters_of}
use Rattle.asm_syntax.specs.Outcome.{Fault, ◌>>=◌}
use Rattle.asm_lex.specs.Characters.{is_blank, is_word_part, is_printed}
use Rattle.asm_lex.specs.Numbers.{number_of}
use Rattle.asm_lex.specs.Texts.{closing_quote, is_text}

-- a lexeme and the length of its text, or what is wrong with it
abbrev pub Read : Type 0
Read = Result (Lexeme × ℕ) FaultKind

-- what a token's reading says
abbrev pub read_of : Result (Token × ℕ) FaultKind → Read
read_of (Ok t) = Ok (lexeme_of t.0, t.1)
read_of (Err k) = Err k

-- a number's reading, where it has this length and value
abbrev pub value_read : ℕ → Option ℕ → Read
value_read len None = Err kind.Number
value_read len (Some n) = Ok (Number n, len)

-- the reading of a span that begins with a digit
abbrev pub number_read : List ℕ → Read
number_read span = value_read (length span) (number_of span)

-- the reading of a string, given what follows its opening quote and where that closes
abbrev pub text_read : List ℕ → Option ℕ → Read
text_read bytes None = Err kind.Text
text_read bytes (Some n) =
    if is_text (take n bytes) then Ok (Text (characters_of (take n bytes)), n + 2)
    else Err kind.Text

-- the reading of a word
abbrev pub word_read : List ℕ → Read
word_read word = Ok (word_lexeme (map to_ascii_uppercase word), length word)

-- the token at the front, which is no blank and begins no comment
unfoldable pub token_at : List ℕ → Read
token_at [] = Err kind.Character
token_at (b ∷ rest) =
    if is_ascii_digit b then number_read (take_while is_ascii_alphanumeric (b ∷ rest))
    else (if is_word_part b then word_read (take_while is_word_part (b ∷ rest))
    else (if b == quote then text_read rest (closing_quote rest)
    else (if is_printed b then Ok (Sign b, 1)
    else Err kind.Character)))

-- what is read at a column, its fault with the column
abbrev pub at_column : {A : Type 0} → ℕ → Result A FaultKind → Result A Fault
at_column column (Ok x) = Ok x
at_column column (Err k) = Err (column, k)

-- the tokens from a column on, or the first fault; the first skip bytes belong to the token before
unfoldable pub tokens_from : ℕ → ℕ → List ℕ → Result (List Piece) Fault
tokens_from skip column [] = Ok []
tokens_from (suc skip) column (b ∷ rest) = tokens_from skip (column + 1) rest
tokens_from zero column (b ∷ rest) =
    if is_blank b then tokens_from 0 (column + 1) rest
    else (if b == semicolon then Ok []
    else do
      t ← at_column column (token_at (b ∷ rest))
      ps ← tokens_from (t.1 - 1) (column + 1) rest
      Ok ((column, t.0) ∷ ps))

-- the tokens of a line, or its first fault
abbrev pub tokens_of : List ℕ → Result (List Piece) Fault
tokens_of line = tokens_from 0 1 line
