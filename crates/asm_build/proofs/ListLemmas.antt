-- Lists that grow at the end, read from the end.
use Rattle.std.proofs.Common.{◌≡◌, ℕ, suc, List, [], ◌∷◌, Bool, true, false, not, ◌&&◌, length, get_or, take}
use Rattle.std.proofs.Common.{set, reverse, refl, sym, ap, ◌∙◌, arith}
use Rattle.std.specs.List.{list_all}
use Rattle.std.proofs.Math.Seq.{take-suc, take-suc-set}
use Rattle.std.proofs.Math.ListN.{length-set}
use Rattle.std.proofs.lemmas.List.{take_all, reverse-append}
use Rattle.std.proofs.lemmas.List.Folds.{list_all-append}
use Rattle.asm_build.specs.Reading.{switch_innermost, outer}

last_first : (xs : List Bool) (n : ℕ) → length xs ≡ suc n
    → reverse xs ≡ get_or xs n false ∷ reverse (take n xs)
last_first xs n e =
    ap reverse (sym (take_all (suc n) xs (omega (arith, e))) ∙ take-suc xs n false (omega (arith, e)))
    ∙ reverse-append (take n xs) (get_or xs n false ∷ [])

pub outer_reverse : (xs : List Bool) (n : ℕ) → length xs ≡ suc n → reverse (take n xs) ≡ outer (reverse xs)
outer_reverse xs n e = sym (ap outer (last_first xs n e))

pub switched_reverse : (xs : List Bool) (n : ℕ) (b : Bool) → length xs ≡ suc n → b ≡ get_or xs n false
    → reverse (set xs n (not b)) ≡ switch_innermost (reverse xs)
switched_reverse xs n b e is =
    let now : length (set xs n (not b)) ≡ suc n = length-set xs n (not b) ∙ e in
    ap reverse (sym (take_all (suc n) (set xs n (not b)) (omega (arith, now)))
    ∙ take-suc-set xs n (not b) (omega (arith, e)))
    ∙ reverse-append (take n xs) (not b ∷ [])
    ∙ ap (λ c. not c ∷ reverse (take n xs)) is
    ∙ sym (ap switch_innermost (last_first xs n e))

swapped : (a b : Bool) → (a && (b && true)) ≡ (b && a)
swapped true true = refl
swapped true false = refl
swapped false true = refl
swapped false false = refl

pub all_reverse : (xs : List Bool) → list_all (λ b. b) (reverse xs) ≡ list_all (λ b. b) xs
all_reverse [] = refl
all_reverse (x ∷ xs) =
    ap (list_all (λ b. b)) (reverse-append (x ∷ []) xs)
    ∙ list_all-append (λ b. b) (reverse xs) (x ∷ [])
    ∙ swapped (list_all (λ b. b) (reverse xs)) x
    ∙ ap (λ b. x && b) (all_reverse xs)
