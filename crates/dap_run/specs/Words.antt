-- The word at a fault in a program's text.
use Rattle.std.specs.Prelude.{ℕ, ◌-◌, [], ◌∷◌, Bool, ◌&&◌, ◌==◌, nat_lt, take, drop, slice_get}
use Rattle.std.specs.Prelude.{unwrap_or, codes, if◌then◌else◌}
use Rattle.std.specs.List.{take_while}
use Rattle.std.specs.Str.{bytes_eq}
use Rattle.std.specs.Str.Lines.{lines}
use Rattle.base_text.specs.Bytes.{Text}
use Rattle.asm_lex.specs.Characters.{is_word_part}
use Rattle.asm_syntax.specs.declared.fault.FaultKind.{FaultKind}
use Rattle.asm_syntax.specs.declared.fault.FaultKind.TheVariants.{TooLong}

-- the line with this number, from 1
abbrev pub line_at : ℕ → Text → Text
line_at number text = unwrap_or (slice_get (lines text) (number - 1)) []

-- what is there from a column on, which is counted from 1
abbrev pub rest_at : ℕ → ℕ → Text → Text
rest_at line column text = drop (column - 1) (line_at line text)

-- a word, of which at most 32 characters are told
abbrev pub word_in : Text → Text
word_in rest = take_while is_word_part (take 32 rest)

-- a sign that is visible
abbrev pub sign_in : Text → Text
sign_in [] = []
sign_in (b ∷ bs) = if nat_lt 32 b && nat_lt b 127 then b ∷ [] else []

abbrev pub word_or_sign : Text → Text → Text
word_or_sign [] rest = sign_in rest
word_or_sign (b ∷ word) rest = b ∷ word

-- the text begins with a byte order mark (RFC 3629, section 6)
abbrev pub has_mark : Text → Bool
has_mark text = bytes_eq (take 3 text) (0xef ∷ 0xbb ∷ 0xbf ∷ [])

-- what a fault at this place in a text is told with; a text that is too long has no word at fault
abbrev pub told_at : ℕ → ℕ → FaultKind → Text → Text
told_at line column TooLong text = []
told_at line column kind text =
    if has_mark text && (line == 1 && column == 1) then codes "a byte order mark"
    else word_or_sign (word_in (rest_at line column text)) (rest_at line column text)
