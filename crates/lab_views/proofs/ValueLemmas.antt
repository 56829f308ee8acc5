-- Shown texts are read as the values that they show.
use Rattle.std.proofs.Common.{◌≡◌, ◌∙◌, ◌≤◌, ℕ, List, [], ◌∷◌, Bool, true, Some, Ok, refl, ap, arith}
use Rattle.std.proofs.lemmas.Bool.Decides.{nat_tests}
use Rattle.std.specs.Prelude.{nat_le}
use Rattle.std.specs.Char.{is_ascii_digit}
use Rattle.asm_lex.specs.Numbers.{number_of}
use Rattle.asm_lex.specs.Spelling.{Begins}
use Rattle.asm_syntax.specs.Numerals.{byte_text, word_text}
use Rattle.asm_lex.proofs.HexNumerals.{IsNumeral, byte_numeral, word_numeral}
use Rattle.lab_shown.specs.declared.place.Place.{Place}
use Rattle.lab_shown.specs.declared.place.Place.TheVariants as place
use Rattle.lab_views.specs.Values.{largest_at, number_spelled, at_most, value_spelled, text_at}

within : (n value : ℕ) (test : Bool) → nat_le value n ≡ test → value ≤ n → at_most n (Some value) ≡ Ok value
within n value test is h = let passes : nat_le value n ≡ true = grind (arith, nat_tests) in rw passes refl

begun : (text : List ℕ) → Begins is_ascii_digit text → number_spelled text ≡ number_of text
begun [] h = absurd h
begun (c ∷ cs) h = rw h refl

read : (n value : ℕ) (text : List ℕ) → IsNumeral value text → value ≤ n
    → at_most n (number_spelled text) ≡ Ok value
read n value text is h =
    ap (at_most n) (begun text is.begins ∙ is.value) ∙ within n value (nat_le value n) refl h

read_byte : (value : ℕ) → value ≤ 255 → at_most 255 (number_spelled (byte_text value)) ≡ Ok value
read_byte value h = read 255 value (byte_text value) (byte_numeral value (omega arith)) h

read_word : (value : ℕ) → value ≤ 65535 → at_most 65535 (number_spelled (word_text value)) ≡ Ok value
read_word value h = read 65535 value (word_text value) (word_numeral value (omega arith)) h

pub shown_is_read : (at : Place) (value : ℕ) → value ≤ largest_at at
    → value_spelled at (text_at at value) ≡ Ok value
shown_is_read place.Sp value h = read_word value h
shown_is_read place.Pc value h = read_word value h
shown_is_read _ value h = read_byte value h
