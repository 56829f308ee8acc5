-- How hit conditions are read that are written without blanks.
use Rattle.std.proofs.Common.{arith, ◌≡◌, ℕ, ◌^◌, ◌<◌, true, false, [], ◌∷◌, ◌++◌, refl, ap}
use Rattle.std.proofs.Common.{Some, None, zero, suc, codes, ◌==◌}
use Rattle.std.specs.Int.{is_in_range}
use Rattle.std.specs.Char.{is_whitespace, is_ascii_graphic, is_ascii_digit}
use Rattle.std.specs.List.{list_all}
use Rattle.std.specs.Str.{all_ascii_digits, trim, trim_start, trim_end, IsAscii}
use Rattle.std.specs.Str.{skip_leading_whitespace, drop_trailing_whitespace}
use Rattle.std.specs.Str.Parse.{without_leading_plus}
use Rattle.std.specs.Fmt.{decimal}
use Rattle.std.proofs.lemmas.Bool.{and_parts, ne_eqb}
use Rattle.std.proofs.lemmas.Bool.Decides.{nat_tests}
use Rattle.std.proofs.lemmas.Str.{chars-IsAscii, encodes-IsAscii}
use Rattle.std.proofs.lemmas.Fmt.{digits_decimal, digits_value-decimal}
use Rattle.base_text.specs.Bytes.{Text}
use Rattle.dap_slice.specs.declared.hits.HitCondition.{HitCondition}
use Rattle.dap_slice.specs.declared.hits.HitCondition.TheVariants.{Exactly, AtLeast, AtMost, Every}
use Rattle.dap_conditions.specs.HitConditions.{number_of, exactly, by_sign, behind_sign}
use Rattle.dap_conditions.specs.HitConditions.{hit_condition_of, spelling, number_in}
use Rattle.dap_conditions.proofs.HitLemmas.{numerals, without_sign}

-- ---- a text without blanks

above_blank : (c : ℕ) → is_ascii_graphic c ≡ true → 32 < c
above_blank c e = grind arith

below_delete : (c : ℕ) → is_ascii_graphic c ≡ true → c < 127
below_delete c e = grind arith

solid : (c : ℕ) → is_ascii_graphic c ≡ true → is_whitespace c ≡ false
solid c e =
    let over : 32 < c = above_blank c e in
    let under : c < 127 = below_delete c e in
    grind (arith, nat_tests)

is_ascii : (text : Text) → list_all is_ascii_graphic text ≡ true → IsAscii text
is_ascii [] all i = omega arith
is_ascii (c ∷ rest) all zero = omega (arith, below_delete c (and_parts _ _ all).0)
is_ascii (c ∷ rest) all (suc i) = is_ascii rest (and_parts _ _ all).1 i

none_before : (text : Text) → list_all is_ascii_graphic text ≡ true → skip_leading_whitespace text ≡ text
none_before [] all = refl
none_before (c ∷ rest) all = rw (solid c (and_parts _ _ all).0) refl

none_behind : (text : Text) → list_all is_ascii_graphic text ≡ true → drop_trailing_whitespace text ≡ text
none_behind [] all = refl
none_behind (c ∷ rest) all =
    let told = and_parts (is_ascii_graphic c) (list_all is_ascii_graphic rest) all in
    rw (solid c told.0, none_behind rest told.1) refl

trimmed : (text : Text) → list_all is_ascii_graphic text ≡ true → trim text ≡ text
unfolding trim_start trim_end
trimmed text all =
    let ascii = is_ascii text all in
    rw (
      chars-IsAscii text ascii,
      none_before text all,
      encodes-IsAscii text ascii,
      chars-IsAscii text ascii,
      none_behind text all,
      encodes-IsAscii text ascii,
    ) refl

-- ---- digits

graphic : (c : ℕ) → is_ascii_digit c ≡ true → is_ascii_graphic c ≡ true
graphic c e = grind arith

all_graphic : (digits : Text) → all_ascii_digits digits ≡ true → list_all is_ascii_graphic digits ≡ true
all_graphic [] all = refl
all_graphic (c ∷ rest) all =
    rw (graphic c (and_parts _ _ all).0) (all_graphic rest (and_parts _ _ all).1)

not_plus : (c : ℕ) → is_ascii_digit c ≡ true → (c == 43) ≡ false
not_plus c e = grind arith

plain : (digits : Text) → all_ascii_digits digits ≡ true → without_leading_plus digits ≡ digits
plain [] all = refl
plain (c ∷ rest) all = rw (not_plus c (and_parts _ _ all).0) refl

number_of_decimal : (n : ℕ) → is_in_range 1 4294967295 n ≡ true → n < 2 ^ 64 → number_of (decimal n) ≡ Some n
number_of_decimal n inside small =
    let all = digits_decimal numerals n small in
    rw (
      trimmed (decimal n) (all_graphic (decimal n) all),
      plain (decimal n) all,
      all,
      digits_value-decimal numerals n small,
      inside,
    ) refl

joined : (sign text : Text) → list_all is_ascii_graphic sign ≡ true → list_all is_ascii_graphic text ≡ true
    → list_all is_ascii_graphic (sign ++ text) ≡ true
joined [] text a b = b
joined (c ∷ sign) text a b =
    let told = and_parts (is_ascii_graphic c) (list_all is_ascii_graphic sign) a in
    rw (told.0) (joined sign text told.1 b)

is_one : (sign c : ℕ) → is_ascii_digit sign ≡ false → is_ascii_digit c ≡ true → c ≡ sign → ⊥
is_one sign c is_not is e = cc (ap is_ascii_digit e)

other : (sign c : ℕ) (rest : Text) → is_ascii_digit sign ≡ false → is_ascii_digit c ≡ true
    → behind_sign sign (c ∷ rest) ≡ None
other sign c rest is_not is = rw (ne_eqb c sign (is_one sign c is_not is)) refl

small : (n : ℕ) → is_in_range 1 4294967295 n ≡ true → n < 2 ^ 64
small n inside = grind arith

signed : (sign : Text) (n : ℕ) → is_in_range 1 4294967295 n ≡ true → list_all is_ascii_graphic sign ≡ true
    → trim (sign ++ decimal n) ≡ sign ++ decimal n
signed sign n inside all =
    trimmed (sign ++ decimal n)
    (joined sign (decimal n) all
    (all_graphic (decimal n) (digits_decimal numerals n (small n inside))))

bare : (digits : Text) → all_ascii_digits digits ≡ true → by_sign digits ≡ exactly digits
bare [] all = refl
bare (c ∷ rest) all =
    let is = (and_parts _ _ all).0 in
    without_sign (c ∷ rest) (other 62 c rest refl is) (other 60 c rest refl is)
    (other 37 c rest refl is) (other 61 c rest refl is)

-- a hit condition is read as it is written
pub read_as_written : (condition : HitCondition) → is_in_range 1 4294967295 (number_in condition) ≡ true
    → hit_condition_of (spelling condition) ≡ Some condition
read_as_written (Exactly n) inside =
    rw (
      signed [] n inside refl,
      bare (decimal n) (digits_decimal numerals n (small n inside)),
      number_of_decimal n inside (small n inside),
    ) refl
read_as_written (AtLeast n) inside =
    rw (signed (codes ">=") n inside refl, number_of_decimal n inside (small n inside)) refl
read_as_written (AtMost n) inside =
    rw (signed (codes "<=") n inside refl, number_of_decimal n inside (small n inside)) refl
read_as_written (Every n) inside =
    rw (signed (codes "%") n inside refl, number_of_decimal n inside (small n inside)) refl
