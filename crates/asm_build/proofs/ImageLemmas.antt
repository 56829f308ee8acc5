-- Bytes at addresses, one after the other.
use Rattle.std.proofs.Common.{◌≡◌, ℕ, ◌+◌, ◌%◌, ◌<◌, ◌≤◌, List, [], ◌∷◌, ◌++◌, Bool, false, ◌||◌, length}
use Rattle.std.proofs.Common.{get_or, drop, drop-cons, add-one, append_assoc, sym, ap, ◌∙◌}
use Rattle.std.proofs.lemmas.List.{drop_all, append-nil}
use Rattle.asm_build.specs.Images.{has}
use Rattle.asm_build.specs.Meaning.{at_address, overlaps}

abbrev Pairs : Type 0
Pairs = List (ℕ × ℕ)

next : (bs : List ℕ) (i : ℕ) → i < length bs → drop i bs ≡ get_or bs i 0 ∷ drop (i + 1) bs
next bs i lt = drop-cons bs i 0 lt ∙ ap (λ k. get_or bs i 0 ∷ drop k bs) (sym (add-one i))

pub put_goes : (image after total : Pairs) (bs : List ℕ) (i address : ℕ) → i < length bs
    → after ≡ image ++ (address, get_or bs i 0) ∷ []
    → image ++ at_address address (drop i bs) ≡ total
    → after ++ at_address ((address + 1) % 65536) (drop (i + 1) bs) ≡ total
put_goes image after total bs i address lt e h =
    ap (λ (ps : Pairs). ps ++ at_address ((address + 1) % 65536) (drop (i + 1) bs)) e
    ∙ append_assoc image ((address, get_or bs i 0) ∷ [])
    (at_address ((address + 1) % 65536) (drop (i + 1) bs))
    ∙ sym (ap (λ cs. image ++ at_address address cs) (next bs i lt)) ∙ h

pub put_ends : (image total : Pairs) (bs : List ℕ) (i address : ℕ) → length bs ≤ i
    → image ++ at_address address (drop i bs) ≡ total → image ≡ total
put_ends image total bs i address le h =
    sym (ap (λ cs. image ++ at_address address cs) (drop_all i bs le) ∙ append-nil image) ∙ h

pub overlap_goes : (image : Pairs) (bs : List ℕ) (i address : ℕ) (b c : Bool) → i < length bs
    → has image address ≡ c
    → overlaps image (at_address address (drop i bs)) ≡ b
    → (c || overlaps image (at_address ((address + 1) % 65536) (drop (i + 1) bs))) ≡ b
overlap_goes image bs i address b c lt e h =
    sym (ap (λ cs. overlaps image (at_address address cs)) (next bs i lt)
    ∙ ap (λ d. d || overlaps image (at_address ((address + 1) % 65536) (drop (i + 1) bs))) e) ∙ h

pub overlap_ends : (image : Pairs) (bs : List ℕ) (i address : ℕ) (b : Bool) → length bs ≤ i
    → overlaps image (at_address address (drop i bs)) ≡ b → false ≡ b
overlap_ends image bs i address b le h =
    sym (ap (λ cs. overlaps image (at_address address cs)) (drop_all i bs le)) ∙ h
