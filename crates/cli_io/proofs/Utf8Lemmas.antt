-- Bytes that begin a character and end within it, and bytes that begin none.
use Rattle.std.proofs.Common.{◌≡◌, ◌⊎◌, ℕ, ◌+◌, ◌/◌, ◌%◌, ◌<◌, ◌≤◌, Bool, true, false, cond, List, [], ◌∷◌}
use Rattle.std.proofs.Common.{◌++◌, length, take, drop, Option, Some, None, IsUtf8, refl, sym, ap, subst, ◌∙◌}
use Rattle.std.proofs.Common.{arith, inl, inr, ⊎_elim, append_assoc, length-append, length-drop}
use Rattle.std.proofs.Common.{take-append-drop, take_all}
use Rattle.std.proofs.lemmas.Bool.{and_parts, cases_lt}
use Rattle.std.proofs.lemmas.Bool.Decides.{nat_tests}
use Rattle.std.proofs.lemmas.Grind.{common_steps}
use Rattle.std.proofs.lemmas.List.{take-append-le, drop_all}
use Rattle.std.proofs.lemmas.Str.{IsUtf8-append, IsUtf8-drop, IsUtf8-encode, IsUtf8-from_is_utf8}
use Rattle.std.proofs.lemmas.Str.{is_utf8-from_IsUtf8, IsCharBoundary-from_take, length-encode}
use Rattle.std.proofs.lemmas.Str.{len_utf8_bounds}
use Rattle.std.proofs.Math.Seq.{take-add, take-append_seam, drop-append_seam}
use Rattle.std.specs.Str.{is_utf8, IsErrorLen, IsValidUpTo}
use Rattle.std.specs.Str.Lossy.{utf8_error_len}
use lib.Dec.{T, ltb, lt→ltb, ltb→lt}
use lib.Utf8.{scalar, scalars, encode, encodes, scalar_cases}
use Rattle.cli_io.specs.TextState.{NeverText, Splits}

-- the bytes of a character in each range

taken : {X : Type 0} (m n : ℕ) (a b : X) → m < n → cond (ltb m n) a b ≡ a
taken {X} m n a b lt = by_test (ltb m n) (lt→ltb m n lt)
  where
    by_test : (y : Bool) → T y → cond y a b ≡ a
    by_test true t = refl
    by_test false t = absurd t

passed : {X : Type 0} (m n : ℕ) (a b : X) → n ≤ m → cond (ltb m n) a b ≡ b
passed {X} m n a b le = by_test (ltb m n) refl
  where
    by_test : (y : Bool) → ltb m n ≡ y → cond y a b ≡ b
    by_test true e = let lt : m < n = ltb→lt m n (subst T (sym e) tt) in absurd (omega arith)
    by_test false e = refl

abbrev next : ℕ → ℕ
next bits = 128 + bits % 64

one : (c : ℕ) → c < 128 → encode c ≡ c ∷ []
unfolding encode
one c h = taken c 128 _ _ h

two : (c : ℕ) → 128 ≤ c → c < 2048 → encode c ≡ (192 + c / 64) ∷ next c ∷ []
unfolding encode
two c l h = passed c 128 _ _ l ∙ taken c 2048 _ _ h

three : (c : ℕ) → 2048 ≤ c → c < 65536 → encode c ≡ (224 + c / 4096) ∷ next (c / 64) ∷ next c ∷ []
unfolding encode
three c l h = passed c 128 _ _ (omega arith) ∙ passed c 2048 _ _ l ∙ taken c 65536 _ _ h

four : (c : ℕ) → 65536 ≤ c → encode c ≡ (240 + c / 262144) ∷ next (c / 4096) ∷ next (c / 64) ∷ next c ∷ []
unfolding encode
four c l = passed c 128 _ _ (omega arith) ∙ passed c 2048 _ _ (omega arith) ∙ passed c 65536 _ _ l

order : (m n : ℕ) → (m < n) ⊎ (n ≤ m)
order m n = cases_lt m n

-- the beginnings of a character
begun_by_one : (a : ℕ) → 194 ≤ a → a ≤ 244 → utf8_error_len (a ∷ []) ≡ None
unfolding utf8_error_len
begun_by_one a low high = grind (arith, common_steps, nat_tests)

abbrev Second : ℕ → ℕ → Type 0
Second a b =
    (128 ≤ b) × (b < 192) × (a ≡ 224 → 160 ≤ b) × (a ≡ 237 → b < 160) × (a ≡ 240 → 144 ≤ b) ×
    (a ≡ 244 → b < 144)

begun_by_two : (a b : ℕ) → 194 ≤ a → a ≤ 244 → Second a b → utf8_error_len (a ∷ b ∷ []) ≡ None
unfolding utf8_error_len
begun_by_two a b low high second = grind (arith, common_steps, nat_tests)

begun_by_three : (a b d : ℕ) → 194 ≤ a → a ≤ 244 → Second a b → (128 ≤ d) × (d < 192)
    → utf8_error_len (a ∷ b ∷ d ∷ []) ≡ None
unfolding utf8_error_len
begun_by_three a b d low high second third = grind (arith, common_steps, nat_tests)

abbrev Begun : List ℕ → Type 0
Begun bytes = utf8_error_len bytes ≡ None

abbrev Scalar : ℕ → Type 0
Scalar c = (c < 55296) ⊎ ((57344 ≤ c) × (c < 1114112))

-- what may follow the first byte of a character
third_rest : (c : ℕ) → 2048 ≤ c → c < 65536 → Scalar c → Second (224 + c / 4096) (next (c / 64))
third_rest c l h (inl low) =
    (omega arith, omega arith, (λ i. omega arith), (λ i. omega arith), (λ i. omega arith), (λ i. omega arith))
third_rest c l h (inr high) = (
  omega arith,
  omega arith,
  (λ i. omega arith),
  (λ i. absurd (omega arith)),
  (λ i. omega arith),
  (λ i. omega arith),
)

most_of : (c : ℕ) → Scalar c → c < 1114112
most_of c (inl low) = omega arith
most_of c (inr high) = high.1

fourth_rest : (c : ℕ) → 65536 ≤ c → c < 1114112 → Second (240 + c / 262144) (next (c / 4096))
fourth_rest c l h =
    (omega arith, omega arith, (λ i. omega arith), (λ i. omega arith), (λ i. omega arith), (λ i. omega arith))

-- a prefix of a character begins one
front_of_two : (c n : ℕ) → 128 ≤ c → c < 2048 → 0 < n → n < 2 → Begun (take n ((192 + c / 64) ∷ next c ∷ []))
front_of_two c n l h some few =
    let is : 1 ≡ n = omega arith in
    subst (λ k. Begun (take k ((192 + c / 64) ∷ next c ∷ []))) is (begun_by_one (192 + c / 64)
    (omega arith) (omega arith))

front_of_three : (c n : ℕ) → 2048 ≤ c → c < 65536 → Scalar c → 0 < n → n < 3
    → Begun (take n ((224 + c / 4096) ∷ next (c / 64) ∷ next c ∷ []))
front_of_three c n l h s some few = ⊎_elim
    (λ (k : n < 2).
    let is : 1 ≡ n = omega arith in subst (λ k. Begun (take k bytes)) is (begun_by_one a (omega arith)
    (omega arith)))
    (λ (k : 2 ≤ n).
    let is : 2 ≡ n = omega arith in
    subst (λ k. Begun (take k bytes)) is (begun_by_two a (next (c / 64)) (omega arith) (omega arith)
    (third_rest c l h s)))
    (order n 2)
  where
    a : ℕ
    a = 224 + c / 4096

    bytes : List ℕ
    bytes = a ∷ next (c / 64) ∷ next c ∷ []

front_of_four : (c n : ℕ) → 65536 ≤ c → c < 1114112 → 0 < n → n < 4
    → Begun (take n ((240 + c / 262144) ∷ next (c / 4096) ∷ next (c / 64) ∷ next c ∷ []))
front_of_four c n l h some few = ⊎_elim
    (λ (k : n < 2).
    let is : 1 ≡ n = omega arith in subst (λ k. Begun (take k bytes)) is (begun_by_one a (omega arith)
    (omega arith)))
    (λ (k : 2 ≤ n). ⊎_elim
    (λ (j : n < 3).
    let is : 2 ≡ n = omega arith in
    subst (λ k. Begun (take k bytes)) is (begun_by_two a b (omega arith) (omega arith) (fourth_rest c l h)))
    (λ (j : 3 ≤ n).
    let is : 3 ≡ n = omega arith in
    subst (λ k. Begun (take k bytes)) is
    (begun_by_three a b (next (c / 64)) (omega arith) (omega arith) (fourth_rest c l h) (
      omega arith,
      omega arith,
    )))
    (order n 3))
    (order n 2)
  where
    a : ℕ
    a = 240 + c / 262144

    b : ℕ
    b = next (c / 4096)

    bytes : List ℕ
    bytes = a ∷ b ∷ next (c / 64) ∷ next c ∷ []

begun_front : (c n : ℕ) → Scalar c → 0 < n → n < length (encode c) → Begun (take n (encode c))
begun_front c n s some few = ⊎_elim
    (λ l. absurd (omega (arith, ap length (one c l))))
    (λ m. ⊎_elim
    (λ l. let e = two c m l in subst (λ b. Begun (take n b)) (sym e) (front_of_two c n m l some (omega
    (arith, ap length e))))
    (λ m2. ⊎_elim
    (λ l. let e = three c m2 l in subst (λ b. Begun (take n b)) (sym e) (front_of_three c n m2 l s some
    (omega (arith, ap length e))))
    (λ m3. let e = four c m3 in
    subst (λ b. Begun (take n b)) (sym e) (front_of_four c n m3 (most_of c s) some (omega (
      arith,
      ap length e,
    ))))
    (order c 65536))
    (order c 2048))
    (order c 128)

some_bytes : (c : ℕ) → 0 < length (encode c)
some_bytes c = let size = length-encode c in let least = (len_utf8_bounds c).0 in omega arith

-- where a character begins, the bytes begin one, if none ends within them
begins_none : (rest more : List ℕ) (cs : List ℕ) → scalars cs ≡ true → encodes cs ≡ rest ++ more
    → 0 < length rest
    → ((n : ℕ) → 0 < n → IsUtf8 (take n rest) → ⊥) → Begun rest
begins_none rest more [] is e some longest =
    absurd (omega (arith, ap length e, length-append rest more))
begins_none rest more (c ∷ cs) is e some longest =
    let size = length-append rest more in
    let s : Scalar c = scalar_cases c (and_parts (scalar c) (scalars cs) is).0 in
    let n : ℕ = length (encode c) in
    let k : ℕ = length rest in ⊎_elim
    (λ (few : k < n).
    let same : take k (encode c) ≡ rest =
    sym (take-append-le k (encode c) (encodes cs) (omega arith)) ∙ ap (take k) e
    ∙ take-append_seam rest more in
    subst Begun same (begun_front c k s some few))
    (λ (many : n ≤ k).
    let same : encode c ≡ take n rest =
    sym (take-append_seam (encode c) (encodes cs)) ∙ ap (take n) e ∙ take-append-le n rest more many in
    absurd (longest n (some_bytes c) (subst IsUtf8 same (IsUtf8-encode c (and_parts (scalar c)
    (scalars cs) is).0))))
    (order k n)

-- what follows whole characters is UTF-8 where all is
pub after_whole : (front rest : List ℕ) → IsUtf8 front → IsUtf8 (front ++ rest) → IsUtf8 rest
after_whole front rest whole all =
    subst IsUtf8 (drop-append_seam front rest)
    (IsUtf8-drop (front ++ rest) (length front) all
    (IsCharBoundary-from_take (front ++ rest) (length front) all (omega (arith, length-append front rest))
    (subst IsUtf8 (sym (take-append_seam front rest)) whole)))

-- what stops being UTF-8 before its end, where no character begins, never is any
pub never_text : (bytes : List ℕ) (n k : ℕ) → IsValidUpTo bytes n → utf8_error_len (drop n bytes) ≡ Some k
    → NeverText bytes
never_text bytes n k valid stops more = by (is_utf8 (bytes ++ more)) refl
  where
    rest : List ℕ
    rest = drop n bytes

    short : n < length bytes
    short = valid.short

    never : IsUtf8 (bytes ++ more) → ⊥
    never all =
        let split : take n bytes ++ rest ++ more ≡ bytes ++ more = ap (λ xs. xs ++ more)
        (take-append-drop n bytes) in
        let u : IsUtf8 (rest ++ more) = after_whole (take n bytes) (rest ++ more) valid.front
        (subst IsUtf8 (sym split ∙ append_assoc (take n bytes) rest more) all) in
        let begun : Begun rest = begins_none rest more u.0 u.1.0 u.1.1 (omega (arith, length-drop n bytes))
        (λ m some front. valid.longest (n + m) (omega arith)
        (subst IsUtf8 (sym (take-add n m bytes)) (IsUtf8-append (take n bytes)
        (take m rest) valid.front front))) in
        let odd : Some k ≡ None = sym stops ∙ begun in cc

    by : (b : Bool) → is_utf8 (bytes ++ more) ≡ b → is_utf8 (bytes ++ more) ≡ false
    by false is = is
    by true is = absurd (never (IsUtf8-from_is_utf8 (bytes ++ more) is))

-- so where whole characters stand in front of it
pub never_behind : (front bytes : List ℕ) → IsUtf8 front → NeverText bytes → NeverText (front ++ bytes)
never_behind front bytes whole never more = by (is_utf8 (front ++ bytes ++ more)) refl
  where
    by : (b : Bool) → is_utf8 (front ++ bytes ++ more) ≡ b → is_utf8 (front ++ bytes ++ more) ≡ false
    by false is = is
    by true is =
        let all : IsUtf8 (front ++ (bytes ++ more)) = subst IsUtf8 (append_assoc front bytes more)
        (IsUtf8-from_is_utf8 _ is) in
        let rest : is_utf8 (bytes ++ more) ≡ true = is_utf8-from_IsUtf8 _ (after_whole front
        (bytes ++ more) whole all) in
        let odd : true ≡ false = sym rest ∙ never more in cc

-- bytes that end within a character leave less than four of it
pub few_left : (bytes : List ℕ) (n : ℕ) (len : Option ℕ) → IsErrorLen bytes n len → len ≡ None
    → length bytes < n + 4
few_left bytes n None few none = few
few_left bytes n (Some k) few none = let odd : Some k ≡ None = none in cc

-- the longest front that is UTF-8 splits off whole characters
pub splits_valid : (bytes : List ℕ) (n : ℕ) → IsValidUpTo bytes n → length bytes < n + 4 → Splits bytes n
splits_valid bytes n valid few =
    let short = valid.short in record {
      within = omega arith;
      few = few;
      whole = valid.front;
      alone = λ rest. absurd (valid.longest (length bytes) short
          (subst IsUtf8 (take-append-drop n bytes ∙ sym (take_all (length bytes) bytes (omega arith)))
          (IsUtf8-append (take n bytes) (drop n bytes) valid.front rest)));
    }

pub splits_whole : (bytes : List ℕ) → IsUtf8 bytes → Splits bytes (length bytes)
splits_whole bytes whole = record {
  within = omega arith;
  few = omega arith;
  whole = subst IsUtf8 (sym (take_all (length bytes) bytes (omega arith))) whole;
  alone = λ rest. drop_all (length bytes) bytes (omega arith);
}
