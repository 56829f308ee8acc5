-- The texts by which data is set.
use Rattle.std.proofs.Common.{◌≡◌, ◌<◌, ◌≤◌, ◌+◌, ◌-◌, ◌∙◌, ◌==◌, ℕ, zero, suc, List, [], ◌∷◌, refl, ap}
use Rattle.std.proofs.Common.{Bool, true, false, cond, Option, Some, None, arith, eqb, inl, inr}
use Rattle.std.proofs.lemmas.Bool.{and_parts, cases_lt, eqb-true, le-leb}
use Rattle.std.specs.Prelude.{◌&&◌, nat_lt, find, decimal, if◌then◌else◌}
use Rattle.std.specs.Fmt.{digits}
use Rattle.std.specs.List.{range_with_len}
use Rattle.std.specs.Str.{bytes_eq}
use Rattle.std.proofs.lemmas.Slice.Eq.{bytes_eq-Decides}
use Rattle.lab_views.proofs.NameLemmas.{word_back}
use Rattle.dap_breakpoints.specs.declared.place.DataPlace.TheVariants.{Bytes}
use Rattle.dap_breakpoints.specs.Places.{register_named, count_named, bytes_within, bytes_named, data_named}
use Rattle.dap_breakpoints.specs.Places.{id_of}

-- ---- a test that all small numbers pass

abbrev all_below : (ℕ → Bool) → ℕ → Bool
all_below p zero = true
all_below p (suc n) = p n && all_below p n

at_below : (p : ℕ → Bool) (n k : ℕ) → all_below p n ≡ true → k < n → p k ≡ true
at_below p zero k all less = absurd (omega (arith, less))
at_below p (suc n) k all less =
    let parts = and_parts (p n) (all_below p n) all in
    elim (cases_lt k n) [
      | inl below ↦ at_below p n k parts.1 below
      | inr last ↦ (let same : k ≡ n = omega (arith, less, last) in ap p same ∙ parts.0)
    ]

-- ---- a search among numbers

one_less : (i n : ℕ) → i < n → n - i ≡ suc (n - (i + 1))
one_less i n lt = omega (arith, lt)

pub find_here : (p : ℕ → Bool) (i n : ℕ) → i < n → p i ≡ true
    → find p (range_with_len i (n - i)) ≡ Some i
find_here p i n lt is = rw (one_less i n lt, is) refl

pub find_next : (p : ℕ → Bool) (i n : ℕ) → i < n → p i ≡ false
    → find p (range_with_len i (n - i)) ≡ find p (range_with_len (i + 1) (n - (i + 1)))
find_next p i n lt is = rw (one_less i n lt, is) refl

-- ---- a number in decimal is read as that number

is_count : ℕ → Option ℕ → Bool
is_count n None = false
is_count n (Some v) = eqb v n

count_if : (n : ℕ) (o : Option ℕ) → is_count n o ≡ true → o ≡ Some n
unfolding is_count
count_if n None h = absurd cc
count_if n (Some v) h = ap (λ (k : ℕ). Some k) (eqb-true v n h)

count_back : (n : ℕ) → 1 ≤ n → n ≤ 16 → count_named (decimal n) ≡ Some n
unfolding is_count digits
count_back n low high =
    let some : n - 1 < 16 = omega (arith, low, high) in
    let same : n - 1 + 1 ≡ n = omega (arith, low) in
    let found =
    count_if (n - 1 + 1) (count_named (decimal (n - 1 + 1)))
    (at_below (λ k. is_count (k + 1) (count_named (decimal (k + 1)))) 16 (n - 1) refl some) in
    rw (← same) found

-- one digit, or two of which the first is 1
abbrev pub count_digits : ℕ → List ℕ
count_digits n = if nat_lt n 10 then (48 + n) ∷ [] else 49 ∷ (38 + n) ∷ []

pub count_written : (n : ℕ) → 1 ≤ n → n ≤ 16 → decimal n ≡ count_digits n
unfolding digits
count_written n low high =
    let less : n < 17 = omega (arith, high) in
    let same : bytes_eq (decimal n) (count_digits n) ≡ true =
    at_below (λ k. bytes_eq (decimal k) (count_digits k)) 17 n refl less in
    (bytes_eq-Decides (decimal n) (count_digits n)).0 same

-- ---- a name of three characters or more isn't a register's

skip : {X : Type 0} (a : Bool) (x : X) (o : Option X) → cond (a && false) (Some x) o ≡ o
skip true x o = refl
skip false x o = refl

skip_two : {X : Type 0} (a b : Bool) (x : X) (o : Option X) → cond (a && (b && false)) (Some x) o ≡ o
skip_two true b x o = skip b x o
skip_two false b x o = refl

no_register : (a b c : ℕ) (more : List ℕ) → register_named (a ∷ b ∷ c ∷ more) ≡ None
no_register a b c more =
    skip (a == 65) _ _ ∙ skip (a == 66) _ _ ∙ skip (a == 67) _ _ ∙ skip (a == 68) _ _ ∙ skip (a == 69) _ _
    ∙ skip (a == 72) _ _ ∙ skip (a == 76) _ _ ∙ skip_two (a == 83) (b == 80) _ _
    ∙ skip_two (a == 66) (b == 67) _ _ ∙ skip_two (a == 68) (b == 69) _ _ ∙ skip_two (a == 72) (b == 76) _ _

-- ---- bytes are found by their text

in_memory : (a n : ℕ) → a + n ≤ 65536 → bytes_within a n ≡ Some (Bytes a n)
in_memory a n within = rw (le-leb (a + n) 65536 within) refl

pub bytes_back : (a n : ℕ) → 1 ≤ n → n ≤ 16 → a + n ≤ 65536
    → data_named (id_of (Bytes a n)) ≡ Some (Bytes a n)
bytes_back a n low high within =
    let small : a < 65536 = omega (arith, low, within) in
    let address = word_back a small in
    let count = count_back n low high in
    let found : bytes_named (id_of (Bytes a n)) ≡ Some (Bytes a n) =
    rw (address, count) (in_memory a n within) in
    rw (no_register _ _ _ _) found
