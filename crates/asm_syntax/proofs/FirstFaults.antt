-- Of several faults one alone comes before all others.
use Rattle.std.proofs.Common.{◌≡◌, ℕ, ◌⊎◌, inl, inr, List, [], ◌∷◌, sym, ap, ◌∙◌, arith}
use Rattle.asm_syntax.specs.declared.fault.FaultKind.{FaultKind}
use Rattle.asm_syntax.specs.Outcome.{Fault, ComesBefore}

decides_once : (a b : List ℕ) → ComesBefore a b → ComesBefore b a → ⊥
decides_once [] b h i = h
decides_once (m ∷ a) [] h i = h
decides_once (m ∷ a) (n ∷ b) (inl h) (inl i) = omega (arith, h, i)
decides_once (m ∷ a) (n ∷ b) (inl h) (inr i) = let e = i.0 in omega (arith, h, e)
decides_once (m ∷ a) (n ∷ b) (inr h) (inl i) = let e = h.0 in omega (arith, i, e)
decides_once (m ∷ a) (n ∷ b) (inr h) (inr i) = decides_once a b h.1 i.1

pub one_first : {F : Type 0} (f g : F) (a b : List ℕ) → (g ≡ f) ⊎ ComesBefore a b
    → (f ≡ g) ⊎ ComesBefore b a → f ≡ g
one_first f g a b (inl e) y = sym e
one_first f g a b (inr x) (inl e) = e
one_first f g a b (inr x) (inr y) = absurd (decides_once a b x y)

pub fault_is : (f g : Fault) → g.0 ≡ f.0 → g.1 ≡ f.1 → g ≡ f
fault_is f g c k = ap (λ (x : ℕ). (x, g.1)) c ∙ ap (λ (x : FaultKind). (f.0, x)) k
