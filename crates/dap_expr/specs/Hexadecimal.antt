-- Numbers that begin with `0x`: `0x5A` is the assembler's 05AH.
use Rattle.std.specs.Prelude.{ℕ, List, [], ◌∷◌, ◌++◌, Bool, true, false, Option, Some, None, option_to_list}
use Rattle.std.specs.Prelude.{if◌then◌else◌, ◌==◌}
use Rattle.std.specs.Char.{is_ascii_alphanumeric, to_ascii_uppercase}
use Rattle.asm_syntax.specs.Ascii.{quote, letter_h}
use Rattle.asm_lex.specs.Characters.{is_word_part}
use Rattle.dap_expr.specs.declared.hexadecimal.Within.{Within}
use Rattle.dap_expr.specs.declared.hexadecimal.Within.TheVariants as within

abbrev pub digit_zero : ℕ
digit_zero = 48

abbrev pub letter_x : ℕ
letter_x = 88

-- where a text is after a character that doesn't continue a number
abbrev pub after : ℕ → Within
after c = if c == quote then within.Text else (if is_word_part c then within.Word else within.Nothing)

-- and after any character
abbrev pub next : Within → ℕ → Within
next within.Nothing c = if c == digit_zero then within.Zero else after c
next within.Word c = after c
next within.Zero c = if to_ascii_uppercase c == letter_x then within.Prefix else after c
next within.Prefix c = if is_ascii_alphanumeric c then within.Digits else after c
next within.Digits c = if is_ascii_alphanumeric c then within.Digits else after c
next within.Text c = if c == quote then within.Nothing else within.Text

-- H behind digits, and X back where there are none
abbrev pub ending : Within → Option ℕ
ending within.Prefix = Some letter_x
ending within.Digits = Some letter_h
ending _ = None

abbrev pub end : Within → List ℕ
end w = option_to_list (ending w)

abbrev pub continues : Within → Bool
continues within.Digits = true
continues _ = false

abbrev pub is_prefix : Within → Bool
is_prefix within.Prefix = true
is_prefix _ = false

-- what stands for a character between two places
abbrev pub text_between : Within → Within → ℕ → List ℕ
text_between w next c =
    if is_prefix next then [] else (if continues next then c ∷ [] else end w ++ c ∷ [])

unfoldable pub assembler_from : Within → List ℕ → List ℕ
assembler_from w [] = end w
assembler_from w (c ∷ cs) = text_between w (next w c) c ++ assembler_from (next w c) cs

-- the text with H behind each number in place of `0x` before it
abbrev pub assembler_text : List ℕ → List ℕ
assembler_text text = assembler_from within.Nothing text
