-- Numbers and signs of hit conditions.
use Rattle.std.proofs.Common.{arith, ◌≡◌, ◌≢◌, ℕ, ◌+◌, ◌^◌, ◌<◌, true, false, List, [], ◌∷◌}
use Rattle.std.proofs.Common.{refl, ap, Some, None, ◌&&◌, ◌==◌}
use Rattle.std.specs.Int.{is_in_range}
use Rattle.std.specs.Str.{all_ascii_digits}
use Rattle.std.specs.Str.Parse.{IsNumeral, digits_value}
use Rattle.std.proofs.lemmas.Bool.{cond_both, and_parts, ne_eqb}
use Rattle.std.proofs.lemmas.Str.Parse.{IsNumeralModel, numerals_by_value, tells_all_ascii_digits}
use Rattle.base_text.specs.Bytes.{Text}
use Rattle.dap_conditions.specs.HitConditions.{number_of_digits, behind_sign, next, exactly, by_sign}

pub numerals : IsNumeralModel (λ ds. all_ascii_digits ds ≡ true) (digits_value 10)
numerals = numerals_by_value _ tells_all_ascii_digits

in_range : (n : ℕ) → 0 < n → n < 2 ^ 32 → is_in_range 1 4294967295 n ≡ true
in_range n some small = grind arith

from_range : (n : ℕ) → is_in_range 1 4294967295 n ≡ true → n < 2 ^ 32
from_range n e = grind arith

pub some_number : (digits : List ℕ) → IsNumeral 10 digits → 0 < digits_value 10 digits
    → digits_value 10 digits < 2 ^ 32 → Some (digits_value 10 digits) ≡ number_of_digits digits
some_number digits numeral some small =
    rw (numerals.from digits numeral.1) (rw (in_range (digits_value 10 digits) some small) refl)

pub no_number : (digits : List ℕ) → ¬ (IsNumeral 10 digits × (digits_value 10 digits < 2 ^ 32))
    → None ≡ number_of_digits digits
no_number [] none = refl
no_number (digit ∷ digits) none =
    let all = all_ascii_digits (digit ∷ digits) in
    let number = digits_value 10 (digit ∷ digits) in
    let is_number = is_in_range 1 4294967295 number in
    cond_both (all && is_number) (Some number) None (λ it. None ≡ it)
    (λ e. let told = and_parts all is_number e in
    absurd (none ((omega arith, numerals.to (digit ∷ digits) told.0), from_range number told.1)))
    (λ e. refl)

-- a text that doesn't begin with a sign
pub no_sign : (sign : ℕ) (text : Text) → ((rest : Text) → text ≢ sign ∷ rest) → behind_sign sign text ≡ None
no_sign sign [] other = refl
no_sign sign (character ∷ rest) other =
    rw (ne_eqb character sign (λ e. other rest (ap (λ (x : ℕ). x ∷ rest) e))) refl

not_there : (sign character : ℕ) (rest : Text) → behind_sign sign (character ∷ rest) ≡ None
    → (character == sign) ≡ false
not_there sign character rest none =
    cond_both (character == sign) (Some rest) None (λ it. it ≡ None → (character == sign) ≡ false)
    (λ e h. absurd (cc)) (λ e h. e) none

-- the last number has none after it
pub next_of_last : (n : ℕ) → n < 2 ^ 32 → 2 ^ 32 < n + 2 → next n ≡ None
next_of_last n small last = grind arith

pub next_of : (n : ℕ) → n + 1 < 2 ^ 32 → next n ≡ Some (n + 1)
next_of n small = grind arith

-- a text with none of the signs
pub without_sign : (text : Text) → behind_sign 62 text ≡ None → behind_sign 60 text ≡ None
    → behind_sign 37 text ≡ None → behind_sign 61 text ≡ None → by_sign text ≡ exactly text
without_sign [] above below every equals = refl
without_sign (character ∷ rest) above below every equals =
    rw (
      not_there 62 character rest above,
      not_there 60 character rest below,
      not_there 37 character rest every,
      not_there 61 character rest equals,
    ) refl
