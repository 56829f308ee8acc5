-- The line of a record is read back as that record.
use Rattle.std.proofs.Common.{◌≡◌, ℕ, suc, ◌+◌, ◌-◌, ◌*◌, ◌/◌, ◌%◌, ◌<◌, List, [], ◌∷◌, ◌++◌, length}
use Rattle.std.proofs.Common.{take}
use Rattle.std.proofs.Common.{true, false, not, ◌==◌, reverse, option_map, Option, Some}
use Rattle.std.proofs.Common.{refl, ap, sym, ◌∙◌, arith, append_assoc, length-append, eq-eqb}
use Rattle.std.specs.Prelude.{All, Ok, option_and_then, sum}
use Rattle.std.specs.List.{list_all}
use Rattle.std.proofs.lemmas.Bool.Decides.{nat_tests}
use Rattle.std.proofs.lemmas.Bool.{and_parts}
use Rattle.std.proofs.lemmas.Grind.{flat_map-append}
use Rattle.std.proofs.lemmas.List.{reverse-append, reverse-reverse}
use Rattle.std.proofs.lemmas.List.Sums.{sum_by-append}
use Rattle.base_text.specs.Hexadecimal.{digit_value, number_from, upper_digit, upper_byte}
use Rattle.asm_hex.specs.Record.{Record, summed_bytes, checksum, digits_of, record_line, bytes_spelled}
use Rattle.asm_hex.specs.Record.{has_length, record_in, record_of, bytes_of_line, read_line}
use Rattle.asm_hex.specs.Contents.{is_blank, without_blanks, trim, lines_of, before_first}
use Rattle.asm_hex.specs.Law.{IsRecord}

-- ---- bytes below 256

abbrev pub Small : List ℕ → Type 0
Small [] = Unit {0}
Small (byte ∷ bytes) = (byte < 256) × Small bytes

pub small_all : (bytes : List ℕ) → All (λ byte. byte < 256) bytes → Small bytes
small_all [] all = tt
small_all (byte ∷ bytes) all =
    (all 0 byte (omega arith), small_all bytes (λ k b inside. all (suc k) b (omega (arith, inside))))

small_append : (xs ys : List ℕ) → Small xs → Small ys → Small (xs ++ ys)
small_append [] ys s t = t
small_append (x ∷ xs) ys s t = (s.0, small_append xs ys s.1 t)

-- ---- digits

digit_read : (n : ℕ) → n < 16 → digit_value (upper_digit n) ≡ Some n
digit_read n small = grind (arith, nat_tests)

byte_read : (n : ℕ) → n < 256 → number_from 0 (upper_byte n) ≡ Some n
byte_read n small =
    let high : digit_value (upper_digit (n / 16)) ≡ Some (n / 16) =
    digit_read (n / 16) (omega (arith, small)) in
    let low : digit_value (upper_digit (n % 16)) ≡ Some (n % 16) = digit_read (n % 16) (omega arith) in
    let whole : (0 * 16 + n / 16) * 16 + n % 16 ≡ n = omega arith in
    rw (high, low) (ap Some whole)

pub bytes_read : (bytes : List ℕ) → Small bytes → bytes_spelled (digits_of bytes) ≡ Some bytes
bytes_read [] small = refl
bytes_read (byte ∷ bytes) small =
    ap (λ (o : Option (List ℕ)). option_and_then (λ b. option_map (λ bs. b ∷ bs) o) (number_from 0
    (upper_byte byte)))
    (bytes_read bytes small.1)
    ∙ ap (λ (o : Option ℕ). option_and_then (λ b. option_map (λ bs. b ∷ bs) (Some bytes)) o)
    (byte_read byte small.0)

-- ---- the line's ends

no_blank : (n : ℕ) → is_blank (upper_digit n) ≡ false
no_blank n = grind (arith, nat_tests)

no_feed : (n : ℕ) → not (upper_digit n == 10) ≡ true
no_feed n = grind (arith, nat_tests)

ends_kept : (front : List ℕ) (last : ℕ) → is_blank last ≡ false
    → trim (58 ∷ (front ++ last ∷ [])) ≡ 58 ∷ (front ++ last ∷ [])
unfolding trim
ends_kept front last inked =
    let turned : reverse ((58 ∷ front) ++ last ∷ []) ≡ last ∷ reverse (58 ∷ front) =
    reverse-append (58 ∷ front) (last ∷ []) in
    let kept : without_blanks (last ∷ reverse (58 ∷ front)) ≡ last ∷ reverse (58 ∷ front) = rw inked refl in
    ap (λ (l : List ℕ). reverse (without_blanks l)) turned ∙ ap reverse (kept ∙ sym turned)
    ∙ reverse-reverse ((58 ∷ front) ++ last ∷ [])

-- the line of a record, without its last digit
front_digits : Record → List ℕ
front_digits r = digits_of (summed_bytes r) ++ upper_digit (checksum (summed_bytes r) / 16) ∷ []

line_is : (r : Record) → record_line r
    ≡ 58 ∷ (front_digits r ++ upper_digit (checksum (summed_bytes r) % 16) ∷ [])
unfolding record_line front_digits
line_is r =
    ap (λ (ds : List ℕ). 58 ∷ ds)
    (flat_map-append upper_byte (summed_bytes r) (checksum (summed_bytes r) ∷ [])
    ∙ sym (append_assoc (digits_of (summed_bytes r)) (upper_digit (checksum (summed_bytes r) / 16) ∷ [])
    (upper_digit (checksum (summed_bytes r) % 16) ∷ [])))

pub line_trimmed : (r : Record) → trim (record_line r) ≡ record_line r
line_trimmed r =
    ap trim (line_is r) ∙ ends_kept (front_digits r) (upper_digit (checksum (summed_bytes r) % 16))
    (no_blank (checksum (summed_bytes r) % 16)) ∙ sym (line_is r)

digits_no_feed : (bytes : List ℕ) → list_all (λ c. not (c == 10)) (digits_of bytes) ≡ true
digits_no_feed [] = refl
digits_no_feed (byte ∷ bytes) = rw (no_feed (byte / 16), no_feed (byte % 16)) (digits_no_feed bytes)

line_ends : (line rest : List ℕ) → list_all (λ c. not (c == 10)) line ≡ true
    → lines_of (line ++ 10 ∷ rest) ≡ line ∷ lines_of rest
unfolding lines_of
line_ends [] rest e = refl
line_ends (c ∷ cs) rest e =
    let parts = and_parts (not (c == 10)) (list_all (λ d. not (d == 10)) cs) e in
    let other : (c == 10) ≡ false = grind (arith, nat_tests, parts.0) in
    rw other (ap (before_first c) (line_ends cs rest parts.1))

pub record_line_ends : (r : Record) (rest : List ℕ)
    → lines_of ((record_line r ++ 10 ∷ []) ++ rest) ≡ record_line r ∷ lines_of rest
unfolding record_line
record_line_ends r rest =
    ap lines_of (append_assoc (record_line r) (10 ∷ []) rest)
    ∙ line_ends (record_line r) rest (digits_no_feed (summed_bytes r ++ checksum (summed_bytes r) ∷ []))

-- ---- the record

-- all numbers of a record that fits are bytes
pub line_bytes : Record → List ℕ
line_bytes r = summed_bytes r ++ checksum (summed_bytes r) ∷ []

all_small : (r : Record) → IsRecord r → Small (line_bytes r)
unfolding line_bytes
all_small r is =
    small_append (summed_bytes r) (checksum (summed_bytes r) ∷ [])
    (is.few, (omega (arith, is.address), (omega arith, (is.kind, small_all r.bytes is.bytes))))
    (omega arith, tt)

total_zero : (bytes : List ℕ) → sum (bytes ++ checksum bytes ∷ []) % 256 ≡ 0
total_zero bytes =
    let all : sum (bytes ++ checksum bytes ∷ []) ≡ sum bytes + sum (checksum bytes ∷ []) =
    sum_by-append (λ (x : ℕ). x) bytes (checksum bytes ∷ []) in
    zero_at (sum bytes) (sum (bytes ++ checksum bytes ∷ [])) all
  where
    zero_at : (s w : ℕ) → w ≡ s + (0 + (256 - s % 256) % 256) → w % 256 ≡ 0
    zero_at s w w_is = omega (arith, w_is)

length_is : (r : Record) → length (line_bytes r) ≡ 5 + length r.bytes
unfolding line_bytes
length_is r =
    let tail : length (r.bytes ++ checksum (summed_bytes r) ∷ []) ≡ length r.bytes + 1 =
    length-append r.bytes (checksum (summed_bytes r) ∷ []) in
    omega (arith, tail)

front_taken : (bytes : List ℕ) (last : ℕ) → take (length bytes) (bytes ++ last ∷ []) ≡ bytes
front_taken [] last = refl
front_taken (byte ∷ bytes) last = ap (λ (bs : List ℕ). byte ∷ bs) (front_taken bytes last)

length_fits : (r : Record) → IsRecord r → has_length (line_bytes r) ≡ true
unfolding line_bytes
length_fits r is =
    let first : (length (line_bytes r) == 5 + length r.bytes) ≡ true =
    eq-eqb (length (line_bytes r)) (5 + length r.bytes) (length_is r) in
    rw (first, is.count) refl

in_line : (r : Record) → record_in (line_bytes r) ≡ r
unfolding line_bytes
in_line r =
    let address : 256 * (r.address / 256) + r.address % 256 ≡ r.address = omega arith in
    rw (address, front_taken r.bytes (checksum (summed_bytes r))) refl

pub record_of_line : (r : Record) → IsRecord r → record_of (line_bytes r) ≡ Ok r
unfolding record_of line_bytes
record_of_line r is =
    let zero : (sum (line_bytes r) % 256 == 0) ≡ true =
    eq-eqb (sum (line_bytes r) % 256) 0 (total_zero (summed_bytes r)) in
    rw (length_fits r is, zero) (ap Ok (in_line r))

pub bytes_of_record : (r : Record) → IsRecord r → bytes_of_line (record_line r) ≡ Ok (line_bytes r)
unfolding record_line line_bytes
bytes_of_record r is = rw (bytes_read (line_bytes r) (all_small r is)) refl

pub record_read : (r : Record) → IsRecord r → read_line (record_line r) ≡ Ok r
unfolding read_line
record_read r is = rw (bytes_of_record r is) (record_of_line r is)
