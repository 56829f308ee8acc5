-- What a further piece makes of what is kept of a text, and what the end of the text shows.
use Rattle.std.proofs.Common.{◌≡◌, ℕ, ◌+◌, ◌<◌, Bool, true, false, ◌||◌, nat_lt, Option, Some, Result, Ok}
use Rattle.std.proofs.Common.{Err, List, [], ◌++◌, length, take, drop, IsUtf8, refl, sym, ap, subst, ◌∙◌}
use Rattle.std.proofs.Common.{arith, append_assoc, append-nil, length-append, take-append-drop}
use Rattle.std.proofs.lemmas.Bool.Decides.{nat_tests}
use Rattle.std.proofs.lemmas.Str.{IsUtf8-append, IsUtf8-nil, IsUtf8-from_is_utf8, is_utf8-from_IsUtf8}
use Rattle.std.proofs.lemmas.Str.{IsUtf8-string_bytes}
use Rattle.std.specs.Global.{Global, Vec}
use Rattle.std.specs.String.{string_vec, string_bytes}
use Rattle.std.specs.Prelude.{String}
use Rattle.std.specs.Str.{is_utf8}
use Rattle.cli_io.specs.declared.text_input.TextFault.{TextFault}
use Rattle.cli_io.specs.declared.text_input.TextFault.TheVariants as fault
use Rattle.cli_io.specs.TextState.{TextState, IsCut, HasReadText, TakesPiece, NeverText, IsBad, Splits}
use Rattle.cli_io.specs.TextState.{IsDecoded}
use Rattle.cli_io.specs.TextState.{IsText}
use Rattle.cli_io.proofs.Utf8Lemmas.{after_whole, never_behind}

abbrev state : List ℕ → ℕ → Bool → TextState
state kept limit is_long = record { kept = kept; limit = limit; is_long = is_long }

-- all of it is kept
pub takes_within : (kept piece : List ℕ) (limit : ℕ) (is_long : Bool)
    → (is_long || nat_lt limit (length (kept ++ piece))) ≡ false
    → TakesPiece piece (state kept limit is_long) (state (kept ++ piece) limit is_long)
takes_within kept piece limit true within text s = let odd : true ≡ false = within in cc
takes_within kept piece limit false within text s =
    let same : kept ++ piece ≡ text ++ piece = ap (λ xs. xs ++ piece) (s.keeps refl) in record {
      long = sym within ∙ ap (λ xs. nat_lt limit (length xs)) same;
      keeps = λ short. same;
      cuts = λ long. let odd : false ≡ true = long in cc;
    }

longer : (limit : ℕ) (text piece : List ℕ) → true ≡ nat_lt limit (length text)
    → true ≡ nat_lt limit (length (text ++ piece))
longer limit text piece long =
    let size = length-append text piece in
    let before : nat_lt limit (length text) ≡ true = sym long in
    let after : nat_lt limit (length text + length piece) ≡ true = more (length text) (length piece) before in
    sym (ap (nat_lt limit) size ∙ after)
  where
    more : (m n : ℕ) → nat_lt limit m ≡ true → nat_lt limit (m + n) ≡ true
    more m n h = grind (arith, nat_tests)

-- behind some whole characters more of them come
cut_on : (front text kept : List ℕ) (n : ℕ) → IsUtf8 front → text ≡ front ++ kept → Splits kept n
    → IsCut (drop n kept) text
cut_on front text kept n whole is s = record {
  front = front ++ take n kept;
  whole = IsUtf8-append front (take n kept) whole s.whole;
  text_is = is ∙ ap (λ xs. front ++ xs) (sym (take-append-drop n kept)) ∙ sym (append_assoc front
      (take n kept) (drop n kept));
  alone = s.alone;
}

-- no more is kept than follows the last whole character
pub takes_past : (kept piece : List ℕ) (limit : ℕ) (is_long : Bool) (n : ℕ)
    → (is_long || nat_lt limit (length (kept ++ piece))) ≡ true → Splits (kept ++ piece) n
    → TakesPiece piece (state kept limit is_long) (state (drop n (kept ++ piece)) limit true)
takes_past kept piece limit true n past splits text s =
    let cut : IsCut kept text = s.cuts refl in record {
      long = longer limit text piece s.long;
      keeps = λ short. let odd : true ≡ false = short in cc;
      cuts = λ long. cut_on cut.front (text ++ piece) (kept ++ piece) n cut.whole
          (ap (λ xs. xs ++ piece) cut.text_is ∙ append_assoc cut.front kept piece) splits;
    }
takes_past kept piece limit false n past splits text s =
    let same : text ++ piece ≡ kept ++ piece = ap (λ xs. xs ++ piece) (sym (s.keeps refl)) in record {
      long = sym past ∙ ap (λ xs. nat_lt limit (length xs)) (sym same);
      keeps = λ short. let odd : true ≡ false = short in cc;
      cuts = λ long. cut_on [] (text ++ piece) (kept ++ piece) n IsUtf8-nil same splits;
    }

-- what is never UTF-8 behind what is kept never is behind the text
pub bad_piece : (kept piece : List ℕ) (limit : ℕ) (is_long : Bool) → NeverText (kept ++ piece)
    → IsBad piece (state kept limit is_long)
bad_piece kept piece limit false never text s = subst (λ xs. NeverText (xs ++ piece)) (s.keeps refl) never
bad_piece kept piece limit true never text s =
    let cut : IsCut kept text = s.cuts refl in
    subst NeverText (sym (ap (λ xs. xs ++ piece) cut.text_is ∙ append_assoc cut.front kept piece))
    (never_behind cut.front (kept ++ piece) cut.whole never)

-- what the end of the text shows

pub found_text : (limit : ℕ) (r : Result (Option (String Global)) TextFault) (kept : List ℕ)
    (is_long : Bool) (text : List ℕ)
    → HasReadText (state kept limit is_long) text → is_long ≡ false → IsDecoded r kept → IsText limit r text
found_text limit (Ok (Some t)) kept is_long text s short d =
    (subst (λ xs. is_utf8 xs ≡ true) (s.keeps short) d.0, d.1 ∙ s.keeps short)
found_text limit (Err fault.BadText) kept is_long text s short d =
    subst (λ xs. is_utf8 xs ≡ false) (s.keeps short) d
found_text limit _ kept is_long text s short d = absurd d

pub found_long : (kept : List ℕ) (limit : ℕ) (is_long : Bool) (text : List ℕ)
    → HasReadText (state kept limit is_long) text
    → is_long ≡ true → kept ≡ [] → (is_utf8 text ≡ true) × (limit < length text)
found_long kept limit false text s long none = let odd : false ≡ true = long in cc
found_long kept limit true text s long none =
    let cut : IsCut kept text = s.cuts refl in
    let whole : cut.front ≡ text = sym (cut.text_is ∙ ap (λ xs. cut.front ++ xs) none
    ∙ append-nil cut.front) in
    (is_utf8-from_IsUtf8 text (subst IsUtf8 whole cut.whole), past (length text) (sym s.long))
  where
    past : (n : ℕ) → nat_lt limit n ≡ true → limit < n
    past n h = grind (arith, nat_tests)

pub found_cut : (kept : List ℕ) (limit : ℕ) (is_long : Bool) (text : List ℕ)
    → HasReadText (state kept limit is_long) text
    → is_long ≡ true → (kept ≡ [] → ⊥) → is_utf8 text ≡ false
found_cut kept limit false text s long some = let odd : false ≡ true = long in cc
found_cut kept limit true text s long some = by (is_utf8 text) refl
  where
    by : (b : Bool) → is_utf8 text ≡ b → is_utf8 text ≡ false
    by false is = is
    by true is =
        let cut : IsCut kept text = s.cuts long in
        absurd (some (cut.alone (after_whole cut.front kept cut.whole (subst IsUtf8 cut.text_is
        (IsUtf8-from_is_utf8 text is)))))

-- what was decoded, and what wasn't

pub decoded_right : (t : String Global) (bytes : Vec ℕ) → string_vec t ≡ bytes
    → (is_utf8 bytes.items ≡ true) × (string_bytes t ≡ bytes.items)
decoded_right t bytes is =
    let same : string_bytes t ≡ bytes.items = ap (λ (v : Vec ℕ). v.items) is in
    (is_utf8-from_IsUtf8 bytes.items (subst IsUtf8 same (IsUtf8-string_bytes t)), same)

pub decoded_wrong : (bytes : List ℕ) → (IsUtf8 bytes → false ≡ true) → is_utf8 bytes ≡ false
decoded_wrong bytes never = by (is_utf8 bytes) refl
  where
    by : (b : Bool) → is_utf8 bytes ≡ b → is_utf8 bytes ≡ false
    by false is = is
    by true is = let odd : false ≡ true = never (IsUtf8-from_is_utf8 bytes is) in cc

-- a piece that was kept, and what was cut off then

pub takes_cut : (v mid new : TextState) (piece : List ℕ) (n : ℕ) → mid ≡ record v { kept = v.kept ++ piece }
    → (mid.is_long || nat_lt mid.limit (length mid.kept)) ≡ true → Splits mid.kept n
    → new ≡ record mid { kept = drop n mid.kept; is_long = true } → TakesPiece piece v new
takes_cut v mid new piece n kept past splits cut =
    let P : TextState → Type 0 = λ m.
    (m.is_long || nat_lt m.limit (length m.kept)) ≡ true → Splits m.kept n
    → TakesPiece piece v (record m { kept = drop n m.kept; is_long = true }) in
    let there : P (record v { kept = v.kept ++ piece }) =
    λ p s. takes_past v.kept piece v.limit v.is_long n p s in
    subst (TakesPiece piece v) (sym cut) (subst P (sym kept) there past splits)

pub bad_kept : (v mid : TextState) (piece : List ℕ) → mid ≡ record v {
  kept = v.kept ++ piece;
} → NeverText mid.kept
    → IsBad piece v
bad_kept v mid piece kept never =
    bad_piece v.kept piece v.limit v.is_long (subst (λ (t : TextState). NeverText t.kept) kept never)
