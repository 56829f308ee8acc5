-- Names and the places that they find.
use Rattle.std.proofs.Common.{◌≡◌, ◌<◌, ◌≤◌, ◌+◌, ◌*◌, ◌/◌, ◌%◌, ◌==◌, ◌⊎◌, ℕ, List, [], ◌∷◌, map, inl, inr}
use Rattle.std.proofs.Common.{refl, sym, ap, Bool, true, false, cond, Option, Some, None, Ok, Err, arith, eqb}
use Rattle.std.proofs.lemmas.Bool.{and_parts, eqb-true, cases_lt, ltb-true}
use Rattle.std.proofs.lemmas.Bool.Decides.{nat_tests}
use Rattle.std.proofs.lemmas.Slice.Eq.{bytes_eq-Decides}
use Rattle.std.specs.Prelude.{◌&&◌, nat_lt, option_and_then, option_map}
use Rattle.std.specs.List.{find, list_all}
use Rattle.std.specs.Char.{to_ascii_uppercase}
use Rattle.std.specs.Str.{bytes_eq}
use Rattle.base_text.specs.Hexadecimal.{digit_value, number_from, word_spelled, upper_digit, upper_word}
use Rattle.asm_lex.proofs.HexNumerals.{at_below}
use Rattle.lab_shown.specs.declared.place.Place.{Place}
use Rattle.lab_shown.specs.declared.place.Place.TheVariants as place
use Rattle.lab_views.specs.Places.{shown_name, registers, register_named, byte_named, or_unknown}
use Rattle.lab_views.specs.Places.{named_in, place_named}
use Rattle.lab_shown.specs.declared.scope.Scope.{Scope}
use Rattle.lab_shown.specs.declared.scope.Scope.TheVariants.{Registers, Flags, Devices, Symbols, Memory}
use Rattle.lab_shown.specs.Scopes.{reference_of, every_scope, scope_with}

-- ---- a word in upper case is read as that word

is_value : ℕ → Option ℕ → Bool
is_value d None = false
is_value d (Some v) = eqb v d

value_if : (d : ℕ) (o : Option ℕ) → is_value d o ≡ true → o ≡ Some d
unfolding is_value
value_if d None h = absurd cc
value_if d (Some v) h = ap (λ (k : ℕ). Some k) (eqb-true v d h)

digit_back : (d : ℕ) → d < 16 → digit_value (upper_digit d) ≡ Some d
unfolding is_value
digit_back d lt =
    value_if d (digit_value (upper_digit d))
    (at_below (λ k. is_value k (digit_value (upper_digit k))) 16 d refl lt)

pub word_back : (n : ℕ) → n < 65536 → word_spelled (upper_word n) ≡ Some n
word_back n lt =
    let h3 : n / 256 / 16 < 16 = omega (arith, lt) in
    let h2 : n / 256 % 16 < 16 = omega arith in
    let h1 : n % 256 / 16 < 16 = omega arith in
    let h0 : n % 256 % 16 < 16 = omega arith in
    let value : (((0 * 16 + n / 256 / 16) * 16 + n / 256 % 16) * 16 + n % 256 / 16) * 16 + n % 256 % 16 ≡ n =
    omega arith in
    rw (
      digit_back (n / 256 / 16) h3,
      digit_back (n / 256 % 16) h2,
      digit_back (n % 256 / 16) h1,
      digit_back (n % 256 % 16) h0,
    ) (ap (λ (k : ℕ). Some k) value)

-- so addresses with one name are one
pub same_address : (m n : ℕ) → m < 65536 → n < 65536 → upper_word m ≡ upper_word n → m ≡ n
same_address m n m_lt n_lt e =
    let m_back = word_back m m_lt in
    let n_back = word_back n n_lt in
    let both : word_spelled (upper_word m) ≡ word_spelled (upper_word n) = ap word_spelled e in
    cc

-- ---- what four digits spell is shown by these digits in upper case

is_shown : ℕ → Option ℕ → Bool
is_shown c None = true
is_shown c (Some v) = nat_lt v 16 && eqb (upper_digit v) (to_ascii_uppercase c)

record IsDigit (c v : ℕ) : Type 0 where
  small : v < 16
  shown : upper_digit v ≡ to_ascii_uppercase c

none_above : (c : ℕ) → 103 ≤ c → digit_value c ≡ None
none_above c h = grind (arith, nat_tests)

shown_if : (c v : ℕ) (o : Option ℕ) → o ≡ Some v → is_shown c o ≡ true → IsDigit c v
unfolding is_shown
shown_if c v None e h = absurd cc
shown_if c v (Some w) e h =
    let same : w ≡ v = cc in
    let parts = and_parts (nat_lt w 16) (eqb (upper_digit w) (to_ascii_uppercase c)) h in
    rw (← same) (record { small = ltb-true w 16 parts.0; shown = eqb-true _ _ parts.1 })

digit_shown : (c v : ℕ) → digit_value c ≡ Some v → IsDigit c v
unfolding is_shown
digit_shown c v e =
    elim (cases_lt c 103) [
      | inl less ↦ shown_if c v (digit_value c) e (at_below (λ k. is_shown k (digit_value k)) 103 c refl less)
      | inr more ↦ (let none = none_above c more in absurd cc)
    ]

then_some : (o : Option ℕ) (f : ℕ → Option ℕ) (n : ℕ) → option_and_then f o ≡ Some n
    → (v : ℕ) × (o ≡ Some v) × (f v ≡ Some n)
then_some None f n e = absurd cc
then_some (Some v) f n e = (v, refl, e)

-- a word below 65,536, and its digits as they are shown
pub record IsShownBy (n : ℕ) (name : List ℕ) : Type 0 where
  pub small : n < 65536
  pub shown : upper_word n ≡ map to_ascii_uppercase name

four_shown : (a b c d n : ℕ) → word_spelled (a ∷ b ∷ c ∷ d ∷ []) ≡ Some n → IsShownBy n (a ∷ b ∷ c ∷ d ∷ [])
four_shown a b c d n e =
    let s3 = then_some (digit_value a) (λ v. number_from (0 * 16 + v) (b ∷ c ∷ d ∷ [])) n e in
    let s2 = then_some (digit_value b) (λ v. number_from ((0 * 16 + s3.0) * 16 + v) (c ∷ d ∷ [])) n s3.2 in
    let s1 =
    then_some (digit_value c) (λ v. number_from (((0 * 16 + s3.0) * 16 + s2.0) * 16 + v) (d ∷ [])) n s2.2 in
    let s0 =
    then_some (digit_value d) (λ v. number_from ((((0 * 16 + s3.0) * 16 + s2.0) * 16 + s1.0) * 16 + v) []) n
    s1.2 in
    let is : (((0 * 16 + s3.0) * 16 + s2.0) * 16 + s1.0) * 16 + s0.0 ≡ n = cc s0.2 in
    let d3 = digit_shown a s3.0 s3.1 in
    let d2 = digit_shown b s2.0 s2.1 in
    let d1 = digit_shown c s1.0 s1.1 in
    let d0 = digit_shown d s0.0 s0.1 in
    let e3 : n / 256 / 16 ≡ s3.0 = omega (arith, is, d3.small, d2.small, d1.small, d0.small) in
    let e2 : n / 256 % 16 ≡ s2.0 = omega (arith, is, d3.small, d2.small, d1.small, d0.small) in
    let e1 : n % 256 / 16 ≡ s1.0 = omega (arith, is, d3.small, d2.small, d1.small, d0.small) in
    let e0 : n % 256 % 16 ≡ s0.0 = omega (arith, is, d3.small, d2.small, d1.small, d0.small) in
    record {
      small = omega (arith, is, d3.small, d2.small, d1.small, d0.small);
      shown = rw (e3, e2, e1, e0, d3.shown, d2.shown, d1.shown, d0.shown) refl;
    }

pub word_shown : (name : List ℕ) (n : ℕ) → word_spelled name ≡ Some n → IsShownBy n name
word_shown [] n e = absurd cc
word_shown (a ∷ []) n e = absurd cc
word_shown (a ∷ b ∷ []) n e = absurd cc
word_shown (a ∷ b ∷ c ∷ []) n e = absurd cc
word_shown (a ∷ b ∷ c ∷ d ∷ []) n e = four_shown a b c d n e
word_shown (a ∷ b ∷ c ∷ d ∷ f ∷ rest) n e = absurd cc

-- ---- what a name finds

abbrev pub is_register : Place → Bool
is_register (place.Memory address) = false
is_register _ = true

-- what is found is one of the list and passes
found_or_next : {X : Type 0} (q p : X → Bool) (y x : X) (ys : List X) (passes : Bool) → p y ≡ passes
    → q y ≡ true → (find p ys ≡ Some x → (q x ≡ true) × (p x ≡ true))
    → cond passes (Some y) (find p ys) ≡ Some x → (q x ≡ true) × (p x ≡ true)
found_or_next q p y x ys true is here next e = let same : y ≡ x = cc in rw (← same) (here, is)
found_or_next q p y x ys false is here next e = next e

found_is : {X : Type 0} (q p : X → Bool) (xs : List X) (x : X) → list_all q xs ≡ true → find p xs ≡ Some x
    → (q x ≡ true) × (p x ≡ true)
found_is q p [] x all e = absurd cc
found_is q p (y ∷ ys) x all e =
    let parts = and_parts (q y) (list_all q ys) all in
    found_or_next q p y x ys (p y) refl parts.0 (found_is q p ys x parts.1) e

-- a register, and the name under which it is shown
pub record IsRegister (register : Place) (name : List ℕ) : Type 0 where
  pub register_is : is_register register ≡ true
  pub name_is : name ≡ shown_name register

-- a register is found by the name under which it is shown
pub register_is : (name : List ℕ) (register : Place) → register_named name ≡ Some register
    → IsRegister register name
register_is name register e =
    let found =
    found_is is_register (λ register. bytes_eq name (shown_name register)) registers register refl e in
    record {
      register_is = found.0;
      name_is = (bytes_eq-Decides name (shown_name register)).0 found.1;
    }

-- a name finds a register in the scope 1, or a byte in the scope 5
pub record FindsRegister (reference : ℕ) (name : List ℕ) (at : Place) : Type 0 where
  pub scope : reference ≡ 1
  pub register : IsRegister at name

pub record FindsByte (reference : ℕ) (name : List ℕ) (at : Place) : Type 0 where
  pub scope : reference ≡ 5
  pub address : ℕ
  pub byte_is : at ≡ place.Memory address
  pub named : IsShownBy address name

known : (found : Option Place) (at : Place) → or_unknown found ≡ Ok at → found ≡ Some at
known None at e = absurd cc
known (Some other) at e = cc

byte_is : (read : Option ℕ) (name : List ℕ) (at : Place) → word_spelled name ≡ read
    → option_map (λ address. place.Memory address) read ≡ Some at → FindsByte 5 name at
byte_is None name at is e = absurd cc
byte_is (Some address) name at is e = record {
  scope = refl;
  address = address;
  byte_is = cc;
  named = word_shown name address is;
}

-- a scope has the number with which it is found
pub scope_found : (reference : ℕ) (scope : Scope) → scope_with reference ≡ Some scope
    → reference ≡ reference_of scope
scope_found reference scope e =
    sym (eqb-true (reference_of scope) reference
    (found_is (λ _. true) (λ s. reference_of s == reference) every_scope scope refl e).1)

in_scope : (found : Option Scope) (reference : ℕ) (name : List ℕ) (at : Place) → scope_with reference ≡ found
    → named_in found name ≡ Ok at → FindsRegister reference name at ⊎ FindsByte reference name at
in_scope (Some Registers) reference name at is e =
    inl (record {
      scope = scope_found reference Registers is;
      register = register_is name at (known (register_named name) at e);
    })
in_scope (Some Memory) reference name at is e =
    rw (scope_found reference Memory is)
    (inr (byte_is (word_spelled name) name at refl (known (byte_named name) at e)))
in_scope (Some Flags) reference name at is e = absurd cc
in_scope (Some Devices) reference name at is e = absurd cc
in_scope (Some Symbols) reference name at is e = absurd cc
in_scope None reference name at is e = absurd cc

pub place_found : (reference : ℕ) (name : List ℕ) (at : Place) → place_named reference name ≡ Ok at
    → FindsRegister reference name at ⊎ FindsByte reference name at
place_found reference name at e =
    in_scope (scope_with reference) reference name at refl e

-- a register's name stands in upper case
register_upper : (register : Place) → is_register register ≡ true
    → shown_name register ≡ map to_ascii_uppercase (shown_name register)
register_upper (place.Memory address) h = absurd cc
register_upper _ h = refl

pub shown_in_upper_case : (reference : ℕ) (name : List ℕ) (at : Place)
    → place_named reference name ≡ Ok at → shown_name at ≡ map to_ascii_uppercase name
shown_in_upper_case reference name at e =
    elim (place_found reference name at e) [
      | inl found ↦ rw found.register.name_is (register_upper at found.register.register_is)
      | inr found ↦ rw found.byte_is found.named.shown
    ]
