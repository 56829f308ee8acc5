use Rattle.std.proofs.Common.{◌≡◌, ℕ, Bool, true, false, List, [], ◌∷◌, ◌++◌, take, refl, sym, ◌∙◌, ap, subst}
use Rattle.std.proofs.Common.{◌≤◌, length}
use Rattle.std.specs.List.{list_all}
use Rattle.std.proofs.lemmas.Bool.{and_parts, and_from, both_ways}
use Rattle.std.proofs.lemmas.List.{take_all, append-nil}
use Rattle.std.proofs.lemmas.List.Folds.{list_all-append}
use Rattle.dap_stream.specs.Spans.{StopsAt, IsSplit}

-- two splits of the same bytes, each before the first byte that doesn't pass
pub same_cut : (p : ℕ → Bool) (a b s t : List ℕ) → list_all p a ≡ true → list_all p b ≡ true → StopsAt p s
    → StopsAt p t → a ++ s ≡ b ++ t → (a ≡ b) × (s ≡ t)
same_cut p [] [] s t pa pb ps pt e = (refl, e)
same_cut p [] (z ∷ b) s t pa pb ps pt e =
    absurd (both_ways (p z) (subst (StopsAt p) e ps) (and_parts (p z) (list_all p b) pb).0)
same_cut p (z ∷ a) [] s t pa pb ps pt e =
    absurd (both_ways (p z) (subst (StopsAt p) (sym e) pt) (and_parts (p z) (list_all p a) pa).0)
same_cut p (z ∷ a) (w ∷ b) s t pa pb ps pt e =
    let i : a ++ s ≡ b ++ t = cc in
    let pa' = (and_parts (p z) (list_all p a) pa).1 in
    let n = same_cut p a b s t pa' (and_parts (p w) (list_all p b) pb).1 ps pt i in
    let f = n.0 in
    (cc, n.1)

-- bytes that pass are a front of all those that do
pub inside : (p : ℕ → Bool) (a s b t : List ℕ) (y : ℕ) → list_all p a ≡ true → p y ≡ false
    → a ++ s ≡ b ++ y ∷ t → (more : List ℕ) × (b ≡ a ++ more)
inside p [] s b t y pa py e = (b, refl)
inside p (x ∷ a) s [] t y pa py e =
    let k : y ≡ x = cc in
    absurd (both_ways (p x) (ap p (sym k) ∙ py) (and_parts (p x) (list_all p a) pa).0)
inside p (x ∷ a) s (z ∷ b) t y pa py e =
    let i : a ++ s ≡ b ++ y ∷ t = cc in
    let n = inside p a s b t y (and_parts (p x) (list_all p a) pa).1 py i in
    let w = n.1 in
    (n.0, cc)

pub split_none : (p : ℕ → Bool) (bytes : List ℕ) (n : ℕ) → list_all p (take n bytes) ≡ true → length bytes ≤ n
    → IsSplit p bytes bytes []
split_none p bytes n pass h =
    record { spelled = sym (append-nil bytes); front_is = rw (take_all n bytes h) at pass; stops = tt }

pub passes_on : (p : ℕ → Bool) (a b : List ℕ) → list_all p a ≡ true → list_all p b ≡ true
    → list_all p (a ++ b) ≡ true
passes_on p a b pa pb = list_all-append p a b ∙ and_from (list_all p a) (list_all p b) pa pb

-- a front that passes, with a byte that passes
pub passes_push : (p : ℕ → Bool) (a : List ℕ) (x : ℕ) → list_all p a ≡ true → p x ≡ true
    → list_all p (a ++ x ∷ []) ≡ true
passes_push p a x pa px = passes_on p a (x ∷ []) pa (and_from (p x) true px refl)

-- both parts of bytes that pass do
pub passes_parts : (p : ℕ → Bool) (a b : List ℕ) → list_all p (a ++ b) ≡ true
    → (list_all p a ≡ true) × (list_all p b ≡ true)
passes_parts p a b e = and_parts (list_all p a) (list_all p b) (sym (list_all-append p a b) ∙ e)

-- what passes one test passes another that is weaker
pub passes_weaker : (p q : ℕ → Bool) → ((x : ℕ) → p x ≡ true → q x ≡ true) → (a : List ℕ)
    → list_all p a ≡ true → list_all q a ≡ true
passes_weaker p q weaker [] pa = refl
passes_weaker p q weaker (x ∷ a) pa =
    let k = and_parts (p x) (list_all p a) pa in
    and_from (q x) (list_all q a) (weaker x k.0) (passes_weaker p q weaker a k.1)
