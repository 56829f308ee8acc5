-- Numbers written as `0hhH` and `0hhhhH` are read as the numbers that they show.
use Rattle.std.proofs.Common.{◌≡◌, ℕ, zero, suc, ◌/◌, ◌%◌, ◌<◌, inl, inr, List, [], ◌∷◌, Bool, true, false}
use Rattle.std.proofs.Common.{cond, Some, None, refl, ap, ◌∙◌, arith, eqb}
use Rattle.std.specs.Prelude.{◌&&◌, ◌++◌, nat_lt, codes}
use Rattle.std.specs.List.{list_all}
use Rattle.std.proofs.lemmas.Bool.{and_parts, eqb-true, cases_lt, lt-ltb}
use Rattle.std.specs.Char.{is_ascii_digit, is_ascii_alphanumeric, digit_value}
use Rattle.asm_lex.specs.Numbers.{with_digits, number_of}
use Rattle.asm_lex.specs.Spelling.{Begins}
use Rattle.base_text.specs.Hexadecimal.{upper_digit, upper_byte, upper_word}

-- ---- a test of every number below n

abbrev pub all_below : (ℕ → Bool) → ℕ → Bool
all_below p zero = true
all_below p (suc n) = p n && all_below p n

pub at_below : (p : ℕ → Bool) (n d : ℕ) → all_below p n ≡ true → d < n → p d ≡ true
at_below p zero d all lt = absurd (omega (arith, lt))
at_below p (suc n) d all lt =
    let h = and_parts (p n) (all_below p n) all in
    elim (cases_lt d n)
    [ inl less ↦ at_below p n d h.1 less | inr le ↦ (let e : d ≡ n = omega arith in ap p e ∙ h.0) ]

-- ---- one digit

hex_value : (d : ℕ) → d < 16 → digit_value (upper_digit d) ≡ d
hex_value d lt = eqb-true _ _ (at_below (λ k. eqb (digit_value (upper_digit k)) k) 16 d refl lt)

hex_part : (d : ℕ) → d < 16 → is_ascii_alphanumeric (upper_digit d) ≡ true
hex_part d lt = at_below (λ k. is_ascii_alphanumeric (upper_digit k)) 16 d refl lt

hex_small : (d : ℕ) → d < 16 → nat_lt (digit_value (upper_digit d)) 16 ≡ true
hex_small d lt = at_below (λ k. nat_lt (digit_value (upper_digit k)) 16) 16 d refl lt

-- ---- numbers

-- a text is read as a number
pub record IsNumeral (n : ℕ) (text : List ℕ) : Type 0 where
  pub begins : Begins is_ascii_digit text
  pub all : list_all is_ascii_alphanumeric text ≡ true
  pub value : number_of text ≡ Some n

some_if : (a b : Bool) (n m : ℕ) → a ≡ true → b ≡ true → n ≡ m → cond (a && b) (Some n) None ≡ Some m
some_if true true n m p q e = ap (λ (k : ℕ). Some k) e
some_if true false n m p q e = absurd cc
some_if false b n m p q e = absurd cc

pub byte_numeral : (n : ℕ) → n < 256 → IsNumeral n (codes "0" ++ upper_byte n ++ codes "H")
byte_numeral n lt =
    let hi : n / 16 < 16 = omega (arith, lt) in
    let lo : n % 16 < 16 = omega arith in
    let digits = 48 ∷ upper_digit (n / 16) ∷ upper_digit (n % 16) ∷ [] in
    let value : with_digits 16 0 digits ≡ n =
    rw (hex_value (n / 16) hi, hex_value (n % 16) lo) (omega arith) in
    record {
      begins = refl;
      all = rw (hex_part (n / 16) hi, hex_part (n % 16) lo) refl;
      value =
          some_if (list_all (λ d. nat_lt (digit_value d) 16) digits) (nat_lt (with_digits 16 0 digits) 65536)
          (with_digits 16 0 digits) n
          (rw (hex_small (n / 16) hi, hex_small (n % 16) lo) refl)
          (rw value (lt-ltb n 65536 (omega (arith, lt))))
          value;
    }

pub word_numeral : (n : ℕ) → n < 65536 → IsNumeral n (codes "0" ++ upper_word n ++ codes "H")
word_numeral n lt =
    let h3 : n / 256 / 16 < 16 = omega (arith, lt) in
    let h2 : n / 256 % 16 < 16 = omega arith in
    let h1 : n % 256 / 16 < 16 = omega arith in
    let h0 : n % 256 % 16 < 16 = omega arith in
    let digits =
    48 ∷ upper_digit (n / 256 / 16) ∷ upper_digit (n / 256 % 16) ∷ upper_digit (n % 256 / 16)
    ∷ upper_digit (n % 256 % 16) ∷ [] in
    let value : with_digits 16 0 digits ≡ n =
    rw (
      hex_value (n / 256 / 16) h3,
      hex_value (n / 256 % 16) h2,
      hex_value (n % 256 / 16) h1,
      hex_value (n % 256 % 16) h0,
    ) (omega arith) in
    record {
      begins = refl;
      all =
          rw (
            hex_part (n / 256 / 16) h3,
            hex_part (n / 256 % 16) h2,
            hex_part (n % 256 / 16) h1,
            hex_part (n % 256 % 16) h0,
          ) refl;
      value =
          some_if (list_all (λ d. nat_lt (digit_value d) 16) digits) (nat_lt (with_digits 16 0 digits) 65536)
          (with_digits 16 0 digits) n
          (rw (
            hex_small (n / 256 / 16) h3,
            hex_small (n / 256 % 16) h2,
            hex_small (n % 256 / 16) h1,
            hex_small (n % 256 % 16) h0,
          ) refl)
          (rw value (lt-ltb n 65536 lt))
          value;
    }
