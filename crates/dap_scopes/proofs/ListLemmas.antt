-- Lists, one element after another.
use Rattle.std.proofs.Common.{◌≡◌, ◌∙◌, ◌<◌, ◌≤◌, ◌+◌, ℕ, Bool, true, false, List, [], ◌∷◌, ◌++◌, length}
use Rattle.std.proofs.Common.{map, take, drop, Some, refl, sym, ap, arith}
use Rattle.std.specs.List.{filter, slice_get}
use Rattle.std.proofs.lemmas.Option.{slice_get_within, get_or_from_slice_get}
use Rattle.std.proofs.lemmas.List.{append-nil, length-append, length-take, map-append, take_all, take_more}
use Rattle.std.proofs.lemmas.List.{take-append-drop, take-append-le}
use Rattle.std.proofs.lemmas.List.Elements.{filter-append}

-- one element more
pub one_taken : {A : Type 0} (xs : List A) (i : ℕ) (x : A) → slice_get xs i ≡ Some x
    → take (i + 1) xs ≡ take i xs ++ x ∷ []
one_taken xs i x found =
    take_more xs i x (slice_get_within xs i x found)
    ∙ ap (λ y. take i xs ++ y ∷ []) (get_or_from_slice_get xs i x x found)

-- what is made of them
pub one_made : {A B : Type 0} (f : A → B) (xs : List A) (i : ℕ) (x : A) (made made' : List B)
    → take (i + 1) xs ≡ take i xs ++ x ∷ [] → made' ≡ made ++ f x ∷ [] → made ≡ map f (take i xs)
    → made' ≡ map f (take (i + 1) xs)
one_made f xs i x made made' one pushed before =
    pushed
    ∙ ap (λ ys. ys ++ f x ∷ []) before
    ∙ sym (ap (map f) one ∙ map-append f (take i xs) (x ∷ []))

-- ---- the first 256 that pass

abbrev pub first : {A : Type 0} → (A → Bool) → List A → List A
first p xs = take 256 (filter p xs)

pub first_fails : {A : Type 0} (p : A → Bool) (xs : List A) (x : A) → p x ≡ false
    → first p (xs ++ x ∷ []) ≡ first p xs
first_fails p xs x fails =
    let none : filter p (x ∷ []) ≡ [] = rw fails refl in
    ap (take 256) (
    filter-append p xs (x ∷ [])
    ∙ ap (λ ys. filter p xs ++ ys) none
    ∙ append-nil (filter p xs)
    )

pub first_passes : {A : Type 0} (p : A → Bool) (xs : List A) (x : A) → p x ≡ true
    → length (first p xs) < 256 → first p (xs ++ x ∷ []) ≡ first p xs ++ x ∷ []
first_passes p xs x passes room =
    let passing = filter p xs in
    let few : length passing < 256 = omega (arith, room, length-take 256 passing) in
    let long : length (passing ++ x ∷ []) ≤ 256 = omega (arith, few, length-append passing (x ∷ [])) in
    let one : filter p (x ∷ []) ≡ x ∷ [] = rw passes refl in
    ap (take 256) (filter-append p xs (x ∷ []) ∙ ap (λ ys. passing ++ ys) one)
    ∙ take_all 256 (passing ++ x ∷ []) long
    ∙ ap (λ ys. ys ++ x ∷ []) (sym (take_all 256 passing (omega (arith, few))))

-- no others come after them
pub first_full : {A : Type 0} (p : A → Bool) (xs others : List A) → 256 ≤ length (first p xs)
    → first p (xs ++ others) ≡ first p xs
first_full p xs others full =
    let long : 256 ≤ length (filter p xs) = omega (arith, full, length-take 256 (filter p xs)) in
    ap (take 256) (filter-append p xs others) ∙ take-append-le 256 (filter p xs) (filter p others) long

pub first_all : {A : Type 0} (p : A → Bool) (xs : List A) (i : ℕ) → 256 ≤ length (first p (take i xs))
    → first p (take i xs) ≡ first p xs
first_all p xs i full =
    sym (first_full p (take i xs) (drop i xs) full) ∙ ap (first p) (take-append-drop i xs)
