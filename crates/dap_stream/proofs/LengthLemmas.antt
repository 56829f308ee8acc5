use Rattle.std.proofs.Common.{◌≡◌, ℕ, ◌+◌, ◌-◌, ◌*◌, ◌<◌, ◌≤◌, ◌==◌, ◌&&◌, ◌||◌, nat_lt, not, true, false, Ok}
use Rattle.std.proofs.Common.{Some, None, List, [], ◌∷◌, ◌++◌, length, refl, arith, sym, ◌∙◌, ap}
use Rattle.std.proofs.Common.{append_assoc, length-append, codes}
use Rattle.std.specs.List.{list_all}
use Rattle.std.specs.Char.{is_ascii_digit, digit_value}
use Rattle.std.specs.Str.Parse.{digits_value}
use Rattle.std.proofs.Math.Seq.{take-append_seam}
use Rattle.std.proofs.lemmas.Str.Parse.{digits_value-take-le}
use Rattle.std.proofs.lemmas.Int.Digits.{digits_value_push}
use Rattle.std.proofs.lemmas.List.{append-nil, nil_from_length}
use Rattle.std.proofs.lemmas.Bool.{and_parts, cond_both, eqb-true, eqb-false, ltb-true, ltb-false}
use Rattle.std.proofs.lemmas.Bool.Decides.{nat_tests}
use Rattle.dap_stream.specs.declared.fault.StreamFault.{StreamFault}
use Rattle.dap_stream.specs.declared.fault.StreamFault.TheVariants as fault
use Rattle.dap_stream.specs.Header.{is_blank, IsLength, IsAllowed}
use Rattle.dap_stream.specs.Spans.{StopsAt}
use Rattle.dap_stream.specs.Lengths.{CanSay, LacksSize, NoNumber, TooLarge, BreaksLength, ValueSays}
use Rattle.dap_stream.specs.Lengths.{value_from}
use Rattle.dap_stream.proofs.SpanLemmas.{same_cut, passes_push, passes_parts}

digit_is : (b : ℕ) → is_ascii_digit b ≡ true → digit_value b ≡ b - 48
digit_is b e = grind (arith, nat_tests)

digit_no_blank : (x : ℕ) → is_ascii_digit x ≡ true → is_blank x ≡ false
digit_no_blank x e = grind (arith, nat_tests)

-- digits aren't blanks
digits_stop : (digits t : List ℕ) → list_all is_ascii_digit digits ≡ true → (digits ≡ [] → StopsAt is_blank t)
    → StopsAt is_blank (digits ++ t)
digits_stop [] t d s = s refl
digits_stop (x ∷ digits) t d s =
    digit_no_blank x (and_parts (is_ascii_digit x) (list_all is_ascii_digit digits) d).0

-- BLANKS AND DIGITS

module _ (blanks digits : List ℕ) (b : list_all is_blank blanks ≡ true)
    (d : list_all is_ascii_digit digits ≡ true) where
  -- in a length that goes on so, digits follow
  pub all_digits : (value t : List ℕ) (size : ℕ) → value ≡ blanks ++ (digits ++ t)
      → (digits ≡ [] → StopsAt is_blank t) → (is : IsLength value size) → digits ++ t ≡ is.digits
  all_digits value t size e stop is =
      (same_cut is_blank blanks is.blanks (digits ++ t) is.digits b is.blanks_are
      (digits_stop digits t d stop)
      (rw (sym (append-nil is.digits)) (digits_stop is.digits [] is.digits_are (λ none. tt)))
      (sym e ∙ is.spelled)).1

  length_of : 0 < length digits → length digits ≤ 10 → IsLength (blanks ++ digits) (digits_value 10 digits)
  length_of some few = record {
    blanks = blanks;
    digits = digits;
    spelled = refl;
    blanks_are = b;
    digits_are = d;
    some = some;
    few = few;
    size_is = refl;
  }

  pub allowed_of : 0 < length digits → length digits ≤ 10 → digits_value 10 digits ≤ 1048576
      → IsAllowed (blanks ++ digits) (digits_value 10 digits)
  allowed_of some few small = record { length_is = length_of some few; within = small }

  no_number : (byte : ℕ) → ((length digits == 0) && is_blank byte) ≡ false
      → (not (is_ascii_digit byte) || (length digits == 10)) ≡ true
      → LacksSize ((blanks ++ digits) ++ byte ∷ []) fault.LengthValue
  no_number byte full bad = NoNumber refl (λ more size is. (
      let e = all_digits _ (byte ∷ more) size (simp append_assoc)
      (λ none. (let z = ap length none in grind (arith, nat_tests, z))) is in
      let all = ap (list_all is_ascii_digit) e ∙ is.digits_are in
      let p = passes_parts is_ascii_digit digits (byte ∷ more) all in
      let x = and_parts (is_ascii_digit byte) (list_all is_ascii_digit more) p.1 in
      grind (arith, nat_tests, x.0, ap length e, is.few, length-append digits (byte ∷ more))))

  too_large : 0 < length digits → length digits ≤ 10 → 1048576 < digits_value 10 digits
      → LacksSize (blanks ++ digits) fault.BodySize
  too_large some few large =
      TooLarge (digits_value 10 digits) refl (length_of some few) (λ more size allowed. (
      let is = allowed.length_is in
      let e = all_digits _ more size (append_assoc blanks digits more)
      (λ none. absurd (omega (arith, ap length none))) is in
      let g = rw (take-append_seam digits more) at
      (digits_value-take-le 10 (digits ++ more) (length digits) (omega arith)) in
      omega (arith, g, is.size_is ∙ ap (digits_value 10) (sym e), allowed.within)))

pub same_size : {value : List ℕ} {m n : ℕ} → IsLength value m → IsLength value n → m ≡ n
same_size {n = n} a b =
    let e = all_digits a.blanks a.digits a.blanks_are a.digits_are _ [] n
    (a.spelled ∙ ap (λ l. a.blanks ++ l) (sym (append-nil a.digits))) (λ none. tt) b in
    a.size_is ∙ (ap (digits_value 10) (sym (append-nil a.digits) ∙ e) ∙ sym b.size_is)

digit_ok : (byte count : ℕ) → count ≤ 10 → (not (is_ascii_digit byte) || (count == 10)) ≡ false
    → (is_ascii_digit byte ≡ true) × (count < 10)
digit_ok byte count few good = (grind (arith, nat_tests), grind (arith, nat_tests))

pub says_blanks : (blanks : List ℕ) → list_all is_blank blanks ≡ true → CanSay blanks
says_blanks blanks b =
    let allowed = allowed_of blanks (codes "0") b refl (omega arith) (omega arith) (omega arith) in
    record { more = codes "0"; size = 0; allowed = allowed }

can_say : (blanks digits : List ℕ) → list_all is_blank blanks ≡ true → list_all is_ascii_digit digits ≡ true
    → length digits ≤ 10 → digits_value 10 digits ≤ 1048576 → CanSay (blanks ++ digits)
can_say blanks [] b d few small = rw (append-nil blanks) (says_blanks blanks b)
can_say blanks (x ∷ digits) b d few small =
    let allowed = allowed_of blanks (x ∷ digits) b d (omega arith) few small in
    record { more = []; size = digits_value 10 (x ∷ digits); allowed = rw append-nil allowed }

value_says : (blanks digits bytes : List ℕ) → list_all is_blank blanks ≡ true
    → list_all is_ascii_digit digits ≡ true → length digits ≤ 10 → digits_value 10 digits ≤ 1048576
    → ValueSays (blanks ++ (digits ++ bytes)) (value_from (length digits) (digits_value 10 digits) bytes)
value_says blanks digits [] b d few small =
    rw (append-nil digits) (cond_both (length digits == 0) None (Some (digits_value 10 digits))
    (λ o. ValueSays (blanks ++ digits) (Ok o))
    (λ none. rw (nil_from_length digits (eqb-true (length digits) 0 none), append-nil blanks) b)
    (λ some. (let n = eqb-false (length digits) 0 some in
    allowed_of blanks digits b d (omega arith) few small)))
value_says blanks digits (byte ∷ bytes) b d few small =
    let whole = blanks ++ (digits ++ byte ∷ bytes) in
    let breaks : (c : StreamFault) → LacksSize ((blanks ++ digits) ++ byte ∷ []) c → BreaksLength whole c =
    λ c l. record {
      front = blanks ++ digits;
      byte = byte;
      others = bytes;
      spelled = sym (append_assoc blanks digits (byte ∷ bytes));
      begins = can_say blanks digits b d few small;
      lacks = l;
    } in
    cond_both ((length digits == 0) && is_blank byte) _ _ (ValueSays whole)
    (λ blank. (let p = and_parts (length digits == 0) (is_blank byte) blank in
    rw (nil_from_length digits (eqb-true (length digits) 0 p.0)) (rw append_assoc at
    (value_says (blanks ++ byte ∷ []) [] bytes (passes_push is_blank blanks byte b p.1) refl (omega arith)
    (omega arith)))))
    (λ full. cond_both (not (is_ascii_digit byte) || (length digits == 10)) _ _ (ValueSays whole)
    (λ bad. breaks fault.LengthValue (no_number blanks digits b d byte full bad))
    (λ good. (let more = digits ++ byte ∷ [] in
    let ok = digit_ok byte (length digits) few good in
    let d' = passes_push is_ascii_digit digits byte d ok.0 in
    let n : length more ≡ length digits + 1 = omega (arith, length-append digits (byte ∷ [])) in
    let k : digits_value 10 more ≡ digits_value 10 digits * 10 + (byte - 48) =
    digits_value_push 10 digits byte ∙ ap (λ v. digits_value 10 digits * 10 + v) (digit_is byte ok.0) in
    let less = ok.1 in
    cond_both (nat_lt 1048576 (digits_value 10 digits * 10 + (byte - 48))) _ _ (ValueSays whole)
    (λ large. breaks fault.BodySize (rw append_assoc (too_large blanks more b d' (omega arith) (omega arith)
    (omega (arith, ltb-true 1048576 _ large)))))
    (λ within. rw (n, k, append_assoc digits (byte ∷ []) bytes) at
    (value_says blanks more bytes b d' (omega arith) (omega (arith, ltb-false 1048576 _ within)))))))

pub length_says : (value : List ℕ) → ValueSays value (value_from 0 0 value)
length_says value = value_says [] [] value refl refl (omega arith) (omega arith)
