-- Lists that are made item by item.
use Rattle.std.proofs.Common.{◌≡◌, ◌∙◌, ◌<◌, ◌≤◌, ◌+◌, ◌-◌, ℕ, suc, zero, List, [], ◌∷◌, ◌++◌, length, take}
use Rattle.std.proofs.Common.{drop, get_or, min, cond, Bool, Option, Some, None, refl, ap, sym, arith}
use Rattle.std.proofs.Math.Seq.{take-nil}
use Rattle.std.specs.List.{slice_get, find, filter_map, cons_option}
use Rattle.std.proofs.lemmas.Option.{slice_get_within, get_or_from_slice_get}
use Rattle.std.proofs.lemmas.List.{take_more, drop_more, drop_all, get_or-drop, length-drop, append-nil}
use Rattle.std.proofs.lemmas.List.{append_assoc}
use Rattle.std.proofs.lemmas.List.Elements.{filter_map-append}
use Rattle.lab_views.specs.Paging.{page}

-- what is made and what is left stay together, when the first of what is left is made
pub made_more : {A : Type 0} (made made' left left' all : List A) (x : A) → made' ≡ made ++ x ∷ []
    → left ≡ x ∷ left'
    → made ++ left ≡ all → made' ++ left' ≡ all
made_more made made' left left' all x e f h = rw (e, append_assoc made (x ∷ []) left') (rw (← f) h)

-- and at the end all is made
pub made_all : {A : Type 0} (made left all : List A) → left ≡ [] → made ++ left ≡ all → made ≡ all
made_all made left all e h = sym (append-nil made) ∙ ap (λ xs. made ++ xs) (sym e) ∙ h

-- a page with one item more
pub page_more : {A : Type 0} (xs : List A) (start i : ℕ) (x : A) → start ≤ i → slice_get xs i ≡ Some x
    → take (i + 1 - start) (drop start xs) ≡ take (i - start) (drop start xs) ++ x ∷ []
page_more xs start i x h e =
    let one : i + 1 - start ≡ (i - start) + 1 = omega arith in
    let whole : start + (i - start) ≡ i = omega arith in
    let inside : i < length xs = slice_get_within xs i x e in
    let within : i - start < length (drop start xs) = omega (arith, length-drop start xs) in
    let item : get_or (drop start xs) (i - start) x ≡ x =
    get_or-drop start xs (i - start) x ∙ ap (λ n. get_or xs n x) whole ∙ get_or_from_slice_get xs i x x e in
    rw one (take_more (drop start xs) (i - start) x within
    ∙ ap (λ y. take (i - start) (drop start xs) ++ y ∷ []) item)

-- past the end of a list no more is taken
same_take : {A : Type 0} (xs : List A) (a b : ℕ) → min a (length xs) ≡ min b (length xs)
    → take a xs ≡ take b xs
same_take [] a b e = rw (take-nil a, take-nil b) refl
same_take (x ∷ xs) zero zero e = refl
same_take (x ∷ xs) zero (suc b) e = absurd (omega arith)
same_take (x ∷ xs) (suc a) zero e = absurd (omega arith)
same_take (x ∷ xs) (suc a) (suc b) e =
    let rest : min a (length xs) ≡ min b (length xs) = omega arith in
    ap (λ ys. x ∷ ys) (same_take xs a b rest)

shown_whole : (start count most all len end i : ℕ) → most ≡ count → len ≡ all → end ≡ min (start + most) len
    → start ≤ i → end ≤ i → (start ≤ end → i ≤ end) → min (i - start) (all - start) ≡ min count (all - start)
shown_whole start count most all len end i m l e from past_end within = grind arith

-- a whole page
pub page_done : {A : Type 0} (xs : List A) (start count most len end i : ℕ) → most ≡ count → len ≡ length xs
    → end ≡ min (start + most) len → start ≤ i → end ≤ i → (start ≤ end → i ≤ end)
    → take (i - start) (drop start xs) ≡ page start count xs
page_done xs start count most len end i m l e from past_end within =
    let here : min (i - start) (length (drop start xs)) ≡ min count (length (drop start xs)) =
    rw (length-drop start xs)
    (shown_whole start count most (length xs) len end i m l e from past_end within) in
    same_take (drop start xs) (i - start) count here

-- the first that passes, one item on
pub find-next : {A : Type 0} (p : A → Bool) (xs : List A) (i : ℕ) (x : A) → slice_get xs i ≡ Some x
    → find p (drop i xs) ≡ cond (p x) (Some x) (find p (drop (i + 1) xs))
find-next p xs i x e =
    rw (drop_more xs i x (slice_get_within xs i x e), get_or_from_slice_get xs i x x e) refl

pub find-end : {A : Type 0} (p : A → Bool) (xs : List A) (i : ℕ) → length xs ≤ i → find p (drop i xs) ≡ None
find-end p xs i h = rw (drop_all i xs h) refl

-- what is given of items, one item on
pub filter_map-more : {A B : Type 0} (f : A → Option B) (xs : List A) (i : ℕ) (x : A) → i < length xs
    → x ≡ get_or xs i x
    → filter_map f (take (i + 1) xs) ≡ filter_map f (take i xs) ++ cons_option (f x) []
filter_map-more f xs i x h e =
    rw (take_more xs i x h, ← e) (filter_map-append f (take i xs) (x ∷ []))
