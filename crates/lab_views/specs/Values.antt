-- What places hold: how a value is spelled, and how it is shown.
use Rattle.std.specs.Prelude.{ℕ, List, [], ◌∷◌, Bool, false, Option, Some, None, Result, Ok, Err, nat_le}
use Rattle.std.specs.Prelude.{if◌then◌else◌}
use Rattle.std.specs.Char.{is_ascii_digit}
use Rattle.asm_lex.specs.Numbers.{number_of}
use Rattle.asm_syntax.specs.Numerals.{byte_text, word_text}
use Rattle.lab_shown.specs.declared.place.Place.{Place}
use Rattle.lab_shown.specs.declared.place.Place.TheVariants as place
use Rattle.lab_views.specs.declared.poke_fault.PokeFault.{PokeFault}
use Rattle.lab_views.specs.declared.poke_fault.PokeFault.TheVariants.{BadValue}

-- the largest value that a place holds
abbrev pub largest_at : Place → ℕ
largest_at place.Sp = 65535
largest_at place.Pc = 65535
largest_at _ = 255

abbrev pub begins_with_digit : List ℕ → Bool
begins_with_digit [] = false
begins_with_digit (c ∷ cs) = is_ascii_digit c

-- the number that the assembler reads from a text
abbrev pub number_spelled : List ℕ → Option ℕ
number_spelled text = if begins_with_digit text then number_of text else None

-- a number, if there is one and it is no larger than this
abbrev pub at_most : ℕ → Option ℕ → Result ℕ PokeFault
at_most n None = Err BadValue
at_most n (Some value) = if nat_le value n then Ok value else Err BadValue

-- the value that a text gives a place
abbrev pub value_spelled : Place → List ℕ → Result ℕ PokeFault
value_spelled place text = at_most (largest_at place) (number_spelled text)

-- a value at a place as it is shown
abbrev pub text_at : Place → ℕ → List ℕ
text_at place.Sp value = word_text value
text_at place.Pc value = word_text value
text_at _ value = byte_text value
