-- An image that is written as Intel HEX is read back.
use Rattle.std.proofs.Common.{◌≡◌, ℕ, zero, suc, ◌+◌, ◌<◌, List, [], ◌∷◌, length, replicate, get_or}
use Rattle.std.proofs.Common.{Bool, true, false, Option, Some, None, IfSome, refl, sym, ap, subst, ◌∙◌, arith}
use Rattle.std.proofs.Math.ListN.{length-replicate}
use Rattle.std.proofs.lemmas.Bool.{eqb-true, eqb-false}
use Rattle.std.proofs.lemmas.Bool.Decides.{nat_tests}
use Rattle.std.proofs.lemmas.List.{length-set, get_or-set_same, get_or-set_other, get_or_default}
use Rattle.std.specs.Prelude.{fold, slice_set, ◌==◌, if◌then◌else◌}
use Rattle.asm_hex.specs.Cells.{fill, cells_of}
use Rattle.asm_hex.specs.Written.{present_from}
use Rattle.asm_hex.specs.Law.{byte_in, AreInMemory, IsReadAs}
use Rattle.asm_hex.proofs.ReadBack.{read_back}

-- ---- bytes in memory

abbrev InMemory : ℕ → List (ℕ × ℕ) → Type 0
InMemory size [] = Unit {0}
InMemory size (p ∷ ps) = (p.0 < size) × (p.1 < 256) × InMemory size ps

in_memory : (ps : List (ℕ × ℕ)) → AreInMemory ps → InMemory 65536 ps
in_memory [] all = tt
in_memory (p ∷ ps) all =
    let here = all 0 p (omega arith) in
    (here.0, here.1, in_memory ps (λ k d inside. all (suc k) d (omega (arith, inside))))

-- ---- the byte at an address

abbrev at_address : ℕ → Option ℕ → ℕ × ℕ → Option ℕ
at_address a found p = if p.0 == a then Some p.1 else found

put_at : (cells : List (Option ℕ)) (i a : ℕ) (x : Option ℕ) → i < length cells
    → get_or (slice_set cells i x) a None ≡ (if i == a then x else get_or cells a None)
put_at cells i a x inside = by (i == a) refl
  where
    by : (b : Bool) → (i == a) ≡ b
        → get_or (slice_set cells i x) a None ≡ (if b then x else get_or cells a None)
    by true e =
        let same : i ≡ a = eqb-true i a e in
        ap (λ k. get_or (slice_set cells i x) k None) (sym same) ∙ get_or-set_same cells i x None inside
    by false e = get_or-set_other cells i a x None (λ same. eqb-false i a e (sym same))

filled_at : (ps : List (ℕ × ℕ)) (cells : List (Option ℕ)) (a : ℕ) → InMemory (length cells) ps
    → get_or (fill ps cells) a None ≡ fold (at_address a) (get_or cells a None) ps
filled_at [] cells a fits = refl
filled_at (p ∷ ps) cells a fits =
    let more = slice_set cells p.0 (Some p.1) in
    filled_at ps more a
    (subst (λ (n : ℕ). InMemory n ps) (sym (length-set cells p.0 (Some p.1))) fits.2)
    ∙ ap (λ found. fold (at_address a) found ps) (put_at cells p.0 a (Some p.1) fits.0)

none_there : (n a : ℕ) → get_or (replicate {A = Option ℕ} n None) a None ≡ None
none_there zero a = refl
none_there (suc n) zero = refl
none_there (suc n) (suc a) = none_there n a

cells_at : (image : List (ℕ × ℕ)) (a : ℕ) → InMemory 65536 image
    → get_or (cells_of image) a None ≡ byte_in image a
unfolding cells_of
cells_at image a fits =
    filled_at image (replicate 65536 None) a
    (subst (λ (n : ℕ). InMemory n image) (sym (length-replicate {A = Option ℕ} 65536 None)) fits)
    ∙ ap (λ found. fold (at_address a) found image) (none_there 65536 a)

-- ---- the bytes that are read

passed_by : (cells : List (Option ℕ)) (k a : ℕ) (found : Option ℕ) → a < k
    → fold (at_address a) found (present_from k cells) ≡ found
passed_by [] k a found lt = refl
passed_by (None ∷ cells) k a found lt = passed_by cells (k + 1) a found (omega (arith, lt))
passed_by (Some b ∷ cells) k a found lt =
    let other : (k == a) ≡ false = grind (arith, nat_tests, lt) in
    ap (λ t. fold (at_address a) (if t then Some b else found) (present_from (k + 1) cells)) other
    ∙ passed_by cells (k + 1) a found (omega (arith, lt))

present_at : (cells : List (Option ℕ)) (k i : ℕ)
    → byte_in (present_from k cells) (k + i) ≡ get_or cells i None
present_at [] k i = refl
present_at (None ∷ cells) k zero = passed_by cells (k + 1) (k + 0) None (omega arith)
present_at (Some b ∷ cells) k zero =
    let here : (k == k + 0) ≡ true = grind (arith, nat_tests) in
    ap (λ t. fold (at_address (k + 0)) (if t then Some b else None) (present_from (k + 1) cells)) here
    ∙ passed_by cells (k + 1) (k + 0) (Some b) (omega arith)
present_at (None ∷ cells) k (suc i) =
    let on : k + suc i ≡ k + 1 + i = omega arith in
    ap (λ a. byte_in (present_from (k + 1) cells) a) on ∙ present_at cells (k + 1) i
present_at (Some b ∷ cells) k (suc i) =
    let on : k + suc i ≡ k + 1 + i = omega arith in
    let other : (k == k + suc i) ≡ false = grind (arith, nat_tests) in
    ap (λ t. fold (at_address (k + suc i)) (if t then Some b else None) (present_from (k + 1) cells)) other
    ∙ ap (λ a. byte_in (present_from (k + 1) cells) a) on ∙ present_at cells (k + 1) i

-- ---- all

length_fill : (ps : List (ℕ × ℕ)) (cells : List (Option ℕ)) → length (fill ps cells) ≡ length cells
length_fill [] cells = refl
length_fill (p ∷ ps) cells =
    length_fill ps (slice_set cells p.0 (Some p.1)) ∙ length-set cells p.0 (Some p.1)

length_cells : (image : List (ℕ × ℕ)) → length (cells_of image) ≡ 65536
unfolding cells_of
length_cells image =
    length_fill image (replicate 65536 None) ∙ length-replicate {A = Option ℕ} 65536 None

small_found : (ps : List (ℕ × ℕ)) (a n : ℕ) (found : Option ℕ) → IfSome found (λ byte. byte < 256)
    → InMemory n ps → IfSome (fold (at_address a) found ps) (λ byte. byte < 256)
small_found [] a n found small fits = small
small_found (p ∷ ps) a n found small fits = small_found ps a n (at_address a found p) (by (p.0 == a)) fits.2
  where
    by : (b : Bool) → IfSome (if b then Some p.1 else found) (λ byte. byte < 256)
    by true = fits.1
    by false = small

pub image_read : (image : List (ℕ × ℕ)) (start : Option ℕ) → AreInMemory image
    → IfSome start (λ address. address < 65536) → IsReadAs image start (present_from 0 (cells_of image))
image_read image start all fits =
    let inside = in_memory image all in
    let long = length_cells image in
    record {
      file =
          read_back (cells_of image) start (omega (arith, long))
          (λ k d lt.
          subst (λ (c : Option ℕ). IfSome c (λ byte. byte < 256))
          (sym (get_or_default (cells_of image) k d None lt ∙ cells_at image k inside))
          (small_found image k 65536 None tt inside))
          fits;
      same = λ a.
          let zero_on : a ≡ 0 + a = omega arith in
          ap (λ k. byte_in (present_from 0 (cells_of image)) k) zero_on ∙ present_at (cells_of image) 0 a
          ∙ cells_at image a inside;
    }
