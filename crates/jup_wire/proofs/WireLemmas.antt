-- Frames at their first delimiter.
use Rattle.std.proofs.Common.{◌≡◌, ◌≢◌, ℕ, suc, ◌+◌, ◌<◌, List, [], ◌∷◌, ◌++◌, length, get_or, take, drop}
use Rattle.std.proofs.Common.{Some, arith, refl, sym, ap, ◌∙◌, append_assoc, add-one, drop-cons}
use Rattle.std.proofs.lemmas.List.{take_more, take-append-drop, take-take, length-drop}
use Rattle.std.proofs.Math.Seq.{take-append_seam}
use Rattle.std.proofs.lemmas.Option.{get_or_from_slice_get, slice_get_read}
use Rattle.jup_wire.specs.Wire.{delimiter, NoDelimiter, HasParts, LacksFrames}
use Rattle.jup_wire.specs.Fault.{FirstDelimiter}

no_delimiter_more : (xs : List (List ℕ)) (x : List ℕ) → NoDelimiter xs → x ≢ delimiter
    → NoDelimiter (xs ++ x ∷ [])
no_delimiter_more [] x none other = (other, tt)
no_delimiter_more (y ∷ ys) x none other = (none.0, no_delimiter_more ys x none.1 other)

-- one more frame is none
pub passed : (xs : List (List ℕ)) (i : ℕ) (x : List ℕ) → i < length xs → x ≡ get_or xs i x → x ≢ delimiter
    → NoDelimiter (take i xs) → NoDelimiter (take (i + 1) xs)
passed xs i x inside at other none =
    let more : NoDelimiter (take i xs ++ get_or xs i x ∷ []) =
    no_delimiter_more (take i xs) (get_or xs i x) none (λ e. other (at ∙ e)) in
    rw (take_more xs i x inside) more

pub found : (xs : List (List ℕ)) (i : ℕ) (x : List ℕ) → i < length xs → x ≡ get_or xs i x → x ≡ delimiter
    → NoDelimiter (take i xs) → FirstDelimiter xs i
found xs i x inside at is none = record {
  here = slice_get_read xs (length xs) i x refl inside at ∙ ap Some is;
  before = none;
}

-- what stands before and behind it
pub around : (xs : List (List ℕ)) (i : ℕ) → i < length xs → FirstDelimiter xs i
    → xs ≡ take i xs ++ delimiter ∷ drop (i + 1) xs
around xs i inside at =
    sym (take-append-drop i xs) ∙ ap (λ (ys : List (List ℕ)). take i xs ++ ys)
    (rw add-one (drop-cons xs i delimiter inside ∙ ap (λ (x : List ℕ). x ∷ drop (suc i) xs)
    (get_or_from_slice_get xs i delimiter delimiter at.here)))

-- five frames, taken from the end one by one
pub five_last : (all v w x y z : List (List ℕ)) (a b c d e : List ℕ)
    → all ≡ v ++ e ∷ [] → v ≡ w ++ d ∷ [] → w ≡ x ++ c ∷ [] → x ≡ y ++ b ∷ [] → y ≡ z ++ a ∷ []
    → all ≡ z ++ a ∷ b ∷ c ∷ d ∷ e ∷ []
five_last all v w x y z a b c d e at_e at_d at_c at_b at_a =
    rw (at_e, at_d, at_c, at_b, at_a) (simp append_assoc)

-- with the identities and the delimiter in front of them
pub whole_parts : (frames front : List (List ℕ)) (at : ℕ)
    (digits header parent_header metadata content : List ℕ)
    → take (at + 6) frames ≡ front ++ digits ∷ header ∷ parent_header ∷ metadata ∷ content ∷ []
    → length front ≡ at + 1 → at < length frames → FirstDelimiter frames at
    → HasParts frames digits (record {
      identities = take at front;
      header = header;
      parent_header = parent_header;
      metadata = metadata;
      content = content;
    })
whole_parts frames front at digits header parent_header metadata content e long inside first =
    let behind : List (List ℕ) = digits ∷ header ∷ parent_header ∷ metadata ∷ content ∷ [] in
    let rest : List (List ℕ) = drop (at + 6) frames in
    let one_more : take (at + 1) frames ≡ take at frames ++ delimiter ∷ [] =
    take_more frames at delimiter inside
    ∙ ap (λ (x : List ℕ). take at frames ++ x ∷ []) (get_or_from_slice_get frames at delimiter delimiter
    first.here) in
    let front_is : front ≡ take at frames ++ delimiter ∷ [] =
    sym (ap (λ (n : ℕ). take n (front ++ behind)) (sym long) ∙ take-append_seam front behind)
    ∙ ap (take (at + 1)) (sym e) ∙ take-take (at + 1) (at + 6) frames (omega arith) ∙ one_more in
    let before : take at front ≡ take at frames =
    ap (take at) (front_is ∙ sym one_more) ∙ take-take at (at + 1) frames (omega arith) in
    let whole : frames ≡ take at frames ++ delimiter ∷ (behind ++ rest) =
    sym (take-append-drop (at + 6) frames)
    ∙ ap (λ (xs : List (List ℕ)). xs ++ rest) (e ∙ ap (λ (xs : List (List ℕ)). xs ++ behind) front_is)
    ∙ simp append_assoc in
    record {
      buffers = rest;
      whole = whole ∙ ap (λ (xs : List (List ℕ)). xs ++ delimiter ∷ (behind ++ rest)) (sym before);
      first = rw before first.before;
    }

pub too_few : (frames : List (List ℕ)) (at : ℕ) → at < length frames → FirstDelimiter frames at
    → length frames < at + 6
    → LacksFrames frames
too_few frames at inside first few = record {
  before = take at frames;
  after = drop (at + 1) frames;
  whole = around frames at inside first;
  first = first.before;
  few = rw length-drop (omega arith);
}
