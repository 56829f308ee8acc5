-- When bytes differ in no bit.
use Rattle.std.proofs.Common.{◌≡◌, ℕ, ◌+◌, ◌<◌, List, [], ◌∷◌, ◌++◌, length, get_or, set, take, drop, map}
use Rattle.std.proofs.Common.{bit_or, bit_xor, arith, refl, sym, ap, ◌∙◌, below_more}
use Rattle.std.proofs.lemmas.Nat.{le_or_l, le_or_r, and_le_l, and_le_r}
use Rattle.std.proofs.lemmas.List.{append-nil, take_more, take-append-drop, length-append, length-map}
use Rattle.std.proofs.lemmas.List.{get_or_default}
use Rattle.std.proofs.lemmas.List.Edits.{map_over_more}
use Rattle.std.proofs.lemmas.List.Folds.{concat-append}
use Rattle.std.specs.List.{concat}
use Rattle.std.specs.Int.Bits.{xor_add_and, xor_self}

or-zero-left : (a b : ℕ) → bit_or a b ≡ 0 → a ≡ 0
or-zero-left a b h = omega (arith, le_or_l a b, h)

or-zero-right : (a b : ℕ) → bit_or a b ≡ 0 → b ≡ 0
or-zero-right a b h = omega (arith, le_or_r a b, h)

xor-zero : (a b : ℕ) → bit_xor a b ≡ 0 → a ≡ b
xor-zero a b h = omega (arith, xor_add_and a b, and_le_l a b, and_le_r a b, h)

-- one more byte is compared
pub same_more : (a b : List ℕ) (i difference : ℕ)
    → (difference ≡ 0 → (k : ℕ) → k < i → get_or a k 0 ≡ get_or b k 0)
    → bit_or difference (bit_xor (get_or a i 0) (get_or b i 0)) ≡ 0
    → (k : ℕ) → k < i + 1 → get_or a k 0 ≡ get_or b k 0
same_more a b i difference same h =
    below_more _ i (same (or-zero-left difference _ h)) (xor-zero _ _ (or-zero-right difference _ h))

pub none_more : (x y difference : ℕ) → x ≡ y → difference ≡ 0 → bit_or difference (bit_xor x y) ≡ 0
none_more x y difference e h = rw (e, h, xor_self y) refl

-- one more frame is taken in
pub concat_more : (xs : List (List ℕ)) (i : ℕ) (x : List ℕ) → i < length xs → x ≡ get_or xs i x
    → concat (take i xs) ++ x ≡ concat (take (i + 1) xs)
concat_more xs i x inside at =
    ap (λ (y : List ℕ). concat (take i xs) ++ y) (at ∙ sym (append-nil _))
    ∙ sym (ap concat (take_more xs i x inside) ∙ concat-append (take i xs) (get_or xs i x ∷ []))

-- one more byte of the block is changed
pub padded_more : (pad : ℕ) (block items : List ℕ) (i : ℕ) → i < length block
    → items ≡ map (λ byte. bit_xor byte pad) (take i block) ++ drop i block
    → set items i (bit_xor (get_or items i 0) pad) ≡ map (λ byte. bit_xor byte pad) (take (i + 1) block)
    ++ drop (i + 1) block
padded_more pad block items i inside e =
    let long : length items ≡ length block =
    ap length e ∙ length-append _ (drop i block) ∙ ap (λ (n : ℕ). n + length (drop i block))
    (length-map (take i block) (λ byte. bit_xor byte pad))
    ∙ sym (length-append (take i block) (drop i block)) ∙ ap length (take-append-drop i block) in
    let here : i < length items = omega arith in
    map_over_more (λ byte. bit_xor byte pad) block items i (get_or items i 0) inside e
    (get_or_default items i 0 _ here)
