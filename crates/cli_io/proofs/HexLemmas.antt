-- What a further digit makes of what is kept, and what all of it means.
use Rattle.std.proofs.Common.{◌≡◌, ℕ, zero, suc, ◌+◌, ◌*◌, All, ◌/◌, ◌%◌, ◌<◌, ◌≤◌, List, [], ◌∷◌, ◌++◌, Bool}
use Rattle.std.proofs.Common.{true, false, not, ◌&&◌, cond, ◌==◌, nat_lt, map, length, take, min, refl, ap}
use Rattle.std.proofs.Common.{sym, ◌∙◌, subst, arith, append-nil, append_assoc, length-append, get_or, drop}
use Rattle.std.proofs.Common.{drop-cons, take-append-drop}
use Rattle.std.specs.List.{list_all}
use Rattle.std.proofs.lemmas.Bool.Decides.{nat_tests}
use Rattle.std.proofs.Math.Seq.{take-nil}
use Rattle.std.proofs.lemmas.List.Elements.{filter-append}
use Rattle.std.proofs.lemmas.List.Folds.{list_all-append}
use Rattle.std.proofs.lemmas.List.{map-append, length-map, length-take, take_all}
use Rattle.cli_io.specs.HexInput.{characters, is_blank, is_hex_digit, digit_value, byte_pairs, BadHex}
use Rattle.cli_io.specs.HexInput.{PastEnd}
use Rattle.cli_io.specs.HexInput.{Bytes, input_of}
use Rattle.cli_io.specs.HexState.{HexState, most_digits, state_of, kept_more, HasReadHex, TakesPiece, IsBad}

take_kept : (n : ℕ) (xs : List ℕ) (x : ℕ)
    → take n (xs ++ x ∷ []) ≡ cond (nat_lt (length (take n xs)) n) (take n xs ++ x ∷ []) (take n xs)
take_kept zero xs x = refl
take_kept (suc n) [] x =
    let some : nat_lt 0 (suc n) ≡ true = grind (arith, nat_tests) in rw some (ap (λ ys. x ∷ ys) (take-nil n))
take_kept (suc n) (y ∷ ys) x =
    let fewer : nat_lt (suc (length (take n ys))) (suc n) ≡ nat_lt (length (take n ys)) n =
    grind (arith, nat_tests) in
    rw (fewer, take_kept n ys x) (consed (nat_lt (length (take n ys)) n) y (take n ys ++ x ∷ []) (take n ys))
  where
    consed : (b : Bool) (y : ℕ) (us vs : List ℕ) → (y ∷ cond b us vs) ≡ cond b (y ∷ us) (y ∷ vs)
    consed true y us vs = refl
    consed false y us vs = refl

long_kept : (n : ℕ) (xs : List ℕ) (x : ℕ)
    → nat_lt n (length (xs ++ x ∷ [])) ≡ cond (nat_lt (length (take n xs)) n) (nat_lt n (length xs)) true
long_kept n xs x = rw (length-append, length-take n xs) (past n (length xs))
  where
    past : (n m : ℕ) → nat_lt n (m + 1) ≡ cond (nat_lt (min n m) n) (nat_lt n m) true
    past n m = grind (arith, nat_tests)

odd_next : (n : ℕ) → ((n + 1) % 2 == 1) ≡ not (n % 2 == 1)
odd_next n = grind (arith, nat_tests)

-- one digit more
state_more : (ds : List ℕ) (d : ℕ) → state_of (ds ++ d ∷ []) ≡ kept_more (state_of ds) (digit_value d)
state_more ds d =
    let values : take most_digits (map digit_value (ds ++ d ∷ []))
    ≡ (kept_more (state_of ds) (digit_value d)).digits =
    ap (take most_digits) (map-append digit_value ds (d ∷ []))
    ∙ take_kept most_digits (map digit_value ds) (digit_value d) in
    let odd : (length (ds ++ d ∷ []) % 2 == 1) ≡ not (length ds % 2 == 1) =
    rw length-append (odd_next (length ds)) in
    let long : nat_lt most_digits (length (ds ++ d ∷ []))
    ≡ (kept_more (state_of ds) (digit_value d)).is_long =
    ap (λ (n : ℕ). nat_lt most_digits n) (length-append ds (d ∷ [])
    ∙ sym (ap (λ n. n + 1) (length-map ds digit_value))
    ∙ sym (length-append (map digit_value ds) (digit_value d ∷ [])))
    ∙ long_kept most_digits (map digit_value ds) (digit_value d)
    ∙ ap (λ (n : ℕ). cond (nat_lt (length (take most_digits (map digit_value ds))) most_digits)
    (nat_lt most_digits n) true) (length-map ds digit_value) in
    rw (values, odd, long) refl

characters-append : (text piece : List ℕ) → characters (text ++ piece) ≡ characters text ++ characters piece
characters-append text piece = filter-append (λ c. not (is_blank c)) text piece

pub reads_blank : (byte : ℕ) (h : HexState) → is_blank byte ≡ true → TakesPiece (byte ∷ []) h h
reads_blank byte h blank text s =
    let same : characters (text ++ byte ∷ []) ≡ characters text =
    characters-append text (byte ∷ []) ∙ (rw blank (append-nil (characters text))) in
    record {
      all_digits = ap (list_all is_hex_digit) same ∙ s.all_digits;
      kept = s.kept ∙ ap state_of (sym same);
    }

pub reads_digit : (byte : ℕ) (h h' : HexState) → is_blank byte ≡ false → is_hex_digit byte ≡ true
    → h' ≡ kept_more h (digit_value byte) → TakesPiece (byte ∷ []) h h'
reads_digit byte h h' blank digit kept text s =
    let more : characters (text ++ byte ∷ []) ≡ characters text ++ byte ∷ [] =
    characters-append text (byte ∷ []) ∙ (rw blank refl) in
    record {
      all_digits =
          ap (list_all is_hex_digit) more ∙ list_all-append is_hex_digit (characters text) (byte ∷ [])
          ∙ (rw (s.all_digits, digit) refl);
      kept =
          kept ∙ ap (λ (x : HexState). kept_more x (digit_value byte)) s.kept
          ∙ sym (state_more (characters text) byte) ∙ ap state_of (sym more);
    }

pub bad_byte : (byte : ℕ) → is_blank byte ≡ false → is_hex_digit byte ≡ false → IsBad (byte ∷ [])
bad_byte byte blank digit = rw (blank, digit) refl

-- something that is neither a digit nor a blank is bad wherever it stands
pub bad_among : (before piece behind : List ℕ) → IsBad piece → IsBad (before ++ piece ++ behind)
bad_among before piece behind bad =
    let split : characters (before ++ piece ++ behind) ≡ characters before ++ characters piece
    ++ characters behind =
    characters-append (before ++ piece) behind ∙ ap (λ (x : List ℕ). x ++ characters behind)
    (characters-append before piece) in
    ap (list_all is_hex_digit) split ∙ list_all-append is_hex_digit (characters before ++ characters piece)
    (characters behind)
    ∙ ap (λ (b : Bool). b && list_all is_hex_digit (characters behind))
    (list_all-append is_hex_digit (characters before) (characters piece)
    ∙ ap (λ (b : Bool). list_all is_hex_digit (characters before) && b) bad
    ∙ never (list_all is_hex_digit (characters before)))
  where
    never : (b : Bool) → (b && false) ≡ false
    never true = refl
    never false = refl

pub bad_input : (text : List ℕ) → IsBad text → input_of text ≡ BadHex
bad_input text bad = rw bad refl

-- a bad piece is bad in all that there is to read
pub bad_around : (before piece behind : List ℕ) → IsBad piece → input_of (before ++ piece ++ behind) ≡ BadHex
bad_around before piece behind bad = bad_input (before ++ piece ++ behind) (bad_among before piece behind bad)

pub found_odd : (h : HexState) (text : List ℕ) → HasReadHex h text → h.is_odd ≡ true → input_of text ≡ BadHex
found_odd h text s odd =
    let is_odd : (length (characters text) % 2 == 1) ≡ true =
    ap (λ (x : HexState). x.is_odd) (sym s.kept) ∙ odd in
    rw (s.all_digits, is_odd) refl

pub found_long : (h : HexState) (text : List ℕ) → HasReadHex h text → h.is_odd ≡ false → h.is_long ≡ true
    → input_of text ≡ PastEnd
unfolding most_digits
found_long h text s odd long =
    let even : (length (characters text) % 2 == 1) ≡ false =
    ap (λ (x : HexState). x.is_odd) (sym s.kept) ∙ odd in
    let many : nat_lt 131072 (length (characters text)) ≡ true =
    ap (λ (x : HexState). x.is_long) (sym s.kept) ∙ long in
    let past : nat_lt 65536 (length (characters text) / 2) ≡ true = grind (arith, nat_tests) in
    rw (s.all_digits, even, past) refl

pub found_bytes : (h : HexState) (text : List ℕ) → HasReadHex h text → h.is_odd ≡ false → h.is_long ≡ false
    → input_of text ≡ Bytes (byte_pairs h.digits)
unfolding most_digits
found_bytes h text s odd long =
    let even : (length (characters text) % 2 == 1) ≡ false =
    ap (λ (x : HexState). x.is_odd) (sym s.kept) ∙ odd in
    let few : nat_lt 131072 (length (characters text)) ≡ false =
    ap (λ (x : HexState). x.is_long) (sym s.kept) ∙ long in
    let within : nat_lt 65536 (length (characters text) / 2) ≡ false = grind (arith, nat_tests) in
    let fits : length (map digit_value (characters text)) ≤ 131072 =
    rw (length-map (characters text) digit_value) (at_most 131072 (length (characters text)) few) in
    let whole : h.digits ≡ map digit_value (characters text) =
    ap (λ (x : HexState). x.digits) s.kept ∙ take_all 131072 (map digit_value (characters text)) fits in
    rw (s.all_digits, even, within, whole) refl
  where
    at_most : (n m : ℕ) → nat_lt n m ≡ false → m ≤ n
    at_most n m h = grind (arith, nat_tests)

-- a byte that is bad is bad in the piece that it stands in
pub bad_at : (piece : List ℕ) (i : ℕ) → i < length piece → IsBad (get_or piece i 0 ∷ []) → IsBad piece
bad_at piece i within bad =
    let split : take i piece ++ get_or piece i 0 ∷ [] ++ drop (suc i) piece ≡ piece =
    append_assoc (take i piece) (get_or piece i 0 ∷ []) (drop (suc i) piece)
    ∙ ap (λ (x : List ℕ). take i piece ++ x) (sym (drop-cons piece i 0 within))
    ∙ take-append-drop i piece in
    subst IsBad split (bad_among (take i piece) (get_or piece i 0 ∷ []) (drop (suc i) piece) bad)

-- these bytes are made of the digits before the rest
pub record IsPaired (digits bytes rest : List ℕ) : Type 0 where
  pub small : All (λ d. d < 16) rest
  pub whole : bytes ++ byte_pairs rest ≡ byte_pairs digits

-- one pair more is made into a byte
pub paired_more : (digits bytes rest : List ℕ) → IsPaired digits bytes rest → 2 ≤ length rest
    → IsPaired digits (bytes ++ (16 * get_or (take 2 rest) 0 0 + get_or (take 2 rest) 1 0) ∷ []) (drop 2 rest)
paired_more digits bytes [] p long = absurd (omega arith)
paired_more digits bytes (high ∷ []) p long = absurd (omega arith)
paired_more digits bytes (high ∷ (low ∷ rest)) p long = record {
  small = λ k d lt. p.small (suc (suc k)) d (omega arith);
  whole = append_assoc bytes ((16 * high + low) ∷ []) (byte_pairs rest) ∙ p.whole;
}

-- a rest without a pair makes no byte
pub paired_all : (digits bytes rest : List ℕ) → IsPaired digits bytes rest → length rest < 2
    → bytes ≡ byte_pairs digits
paired_all digits bytes [] p short = sym (append-nil bytes) ∙ p.whole
paired_all digits bytes (digit ∷ []) p short = sym (append-nil bytes) ∙ p.whole
paired_all digits bytes (high ∷ (low ∷ rest)) p short = absurd (omega arith)
