-- Open IFs in an array.
use Rattle.std.proofs.Common.{◌≡◌, ℕ, zero, suc, ◌+◌, ◌-◌, ◌<◌, ◌≤◌, List, ◌∷◌, length, get_or, refl, sym}
use Rattle.std.proofs.Common.{ap, subst, ◌∙◌, arith, add-one}
use Rattle.std.proofs.Math.ListN.{set}
use Rattle.std.proofs.lemmas.List.{get_or-set_same, get_or-set_other}
use Rattle.asm_text.specs.declared.open_if.OpenIf.{OpenIf}
use Rattle.std.proofs.Common.{false, Ok}
use Rattle.asm_text.specs.Conditionals.{at_else, with_else}
use Rattle.asm_text.specs.OpenIfs.{no_if, last_first}

-- what stands after isn't among them
last_first-set : (items : List OpenIf) (n k : ℕ) (x : OpenIf) → n ≤ k
    → last_first (set items k x) n ≡ last_first items n
last_first-set items zero k x h = refl
last_first-set items (suc n) k x h =
    let other : n ≡ k → ⊥ = λ e. absurd (omega arith) in
    ap (λ o. o ∷ last_first (set items k x) n) (get_or-set_other items k n x no_if other)
    ∙ ap (λ os. get_or items n no_if ∷ os) (last_first-set items n k x (omega arith))

-- one more
pub one_more : (items : List OpenIf) (n : ℕ) (x : OpenIf) → n < length items
    → last_first (set items n x) (n + 1) ≡ x ∷ last_first items n
one_more items n x h =
    rw add-one (ap (λ o. o ∷ last_first (set items n x) n) (get_or-set_same items n x no_if h)
    ∙ ap (λ os. x ∷ os) (last_first-set items n n x (omega arith)))

pub length_is : (items : List OpenIf) (n : ℕ) → length (last_first items n) ≡ n
length_is items zero = refl
length_is items (suc n) = ap suc (length_is items n)

-- the innermost, and the others
pub last_first_top : (items : List OpenIf) (n : ℕ) → 0 < n
    → last_first items n ≡ get_or items (n - 1) no_if ∷ last_first items (n - 1)
last_first_top items zero h = absurd (omega arith)
last_first_top items (suc n) h = let e : suc n - 1 ≡ n = omega arith in rw e refl

-- another innermost one
pub last_first_switch : (items : List OpenIf) (n : ℕ) (x : OpenIf) → 0 < n → n ≤ length items
    → last_first (set items (n - 1) x) n ≡ x ∷ last_first items (n - 1)
last_first_switch items zero x h within = absurd (omega arith)
last_first_switch items (suc n) x h within =
    let e : n ≡ suc n - 1 = omega arith in
    subst (λ (k : ℕ). last_first (set items k x) (suc n) ≡ x ∷ last_first items k) e
    (ap (λ o. o ∷ last_first (set items n x) n) (get_or-set_same items n x no_if (omega arith))
    ∙ ap (λ os. x ∷ os) (last_first-set items n n x (omega arith)))

-- what ELSE does where the innermost IF has none yet
pub switched : (column : ℕ) (items : List OpenIf) (n : ℕ) (os : List OpenIf) → 0 < n → n ≤ length items
    → last_first items n ≡ os
    → (get_or items (n - 1) no_if).has_else ≡ false
    → at_else column os ≡ Ok (last_first (set items (n - 1) (with_else (get_or items (n - 1) no_if))) n)
switched column items n os h within view free =
    let top : os ≡ get_or items (n - 1) no_if ∷ last_first items (n - 1) =
    sym view ∙ last_first_top items n h in
    rw (top, free, last_first_switch items n (with_else (get_or items (n - 1) no_if)) h within) refl
