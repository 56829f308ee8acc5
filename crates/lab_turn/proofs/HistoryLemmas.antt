-- Lists, beginnings of lists, and the calls of a seat.
use Rattle.std.proofs.Common.{◌≡◌, ◌≢◌, ℕ, zero, suc, ◌+◌, ◌<◌, ◌≤◌, ◌==◌, ◌⊎◌, inl, inr, ⊎_elim, Bool, true}
use Rattle.std.proofs.Common.{false, cond, List, [], ◌∷◌, ◌++◌, map, length, get_or, set, refl, ap, sym, ◌∙◌}
use Rattle.std.proofs.Common.{subst, arith, append_assoc, eq-eqb, ne_eqb, All}
use Rattle.std.specs.List.{filter, count_by}
use Rattle.std.proofs.lemmas.List.{append-nil, map-append}
use Rattle.std.proofs.lemmas.List.Elements.{filter-append}
use Rattle.std.proofs.lemmas.List.Sums.{sum_by-set}
use mathlib.Core.Logic.{dite}
use mathlib.Core.Option.{some, some-injective, some-ne-none}
use mathlib.Core.List.{IsPrefix}
use native.Mathlib.Decide.{dec_le}
use lib.ListN.{get_elem?}
use Rattle.lab_turn.specs.History.{calls_of}

pub le_or_lt : (a b : ℕ) → (a ≤ b) ⊎ (b < a)
le_or_lt a b = dite (dec_le a b) (λ l. inl l) (λ l. inr (omega arith))

module _ {A : Type 0} where
  pub prefix_self : (xs : List A) → IsPrefix xs xs
  prefix_self xs = ([], append-nil xs)

  pub prefix_trans : (xs ys zs : List A) → IsPrefix xs ys → IsPrefix ys zs → IsPrefix xs zs
  prefix_trans xs ys zs p q = (p.0 ++ q.0, sym (append_assoc xs p.0 q.0) ∙ (ap (λ w. w ++ q.0) p.1 ∙ q.1))

  pub inside : (l : List A) (i : ℕ) (a : A) → get_elem? l i ≡ some a → i < length l
  inside [] i a e = absurd (some-ne-none a (sym e))
  inside (x ∷ xs) zero a e = omega arith
  inside (x ∷ xs) (suc i) a e = let h = inside xs i a e in omega arith

  pub at_end : (l : List A) (a b : A) (j : ℕ) → get_elem? (l ++ a ∷ []) j ≡ some b
      → (get_elem? l j ≡ some b) ⊎ ((j ≡ length l) × (a ≡ b))
  at_end [] a b zero e = inr (refl, some-injective a b e)
  at_end [] a b (suc j) e = absurd (some-ne-none b (sym e))
  at_end (x ∷ xs) a b zero e = inl e
  at_end (x ∷ xs) a b (suc j) e =
      ⊎_elim (λ z. inl z) (λ (z : (j ≡ length xs) × (a ≡ b)). inr (ap suc z.0, z.1)) (at_end xs a b j e)

  pub get_here : (l : List A) (i : ℕ) (a : A) → get_elem? l i ≡ some a → get_or l i a ≡ a
  get_here [] i a e = refl
  get_here (x ∷ xs) zero a e = some-injective x a e
  get_here (x ∷ xs) (suc i) a e = get_here xs i a e

  pub here_get : (l : List A) (i : ℕ) (a : A) → i < length l → get_elem? l i ≡ some (get_or l i a)
  here_get [] i a lt = absurd (omega arith)
  here_get (x ∷ xs) zero a lt = refl
  here_get (x ∷ xs) (suc i) a lt = here_get xs i a (omega arith)

  pub count_set : (p : A → Bool) (l : List A) (i : ℕ) (a b : A) → get_elem? l i ≡ some a
      → count_by p (set l i b) + cond (p a) 1 0 ≡ count_by p l + cond (p b) 1 0
  count_set p l i a b e =
      subst (λ x. count_by p (set l i b) + cond (p x) 1 0 ≡ count_by p l + cond (p b) 1 0) (get_here l i a e)
      (sum_by-set (λ x. cond (p x) 1 0) l i b a (inside l i a e))

  module _ (P : A → Type 0) where
    pub of_all : (l : List A) → All P l → (i : ℕ) (a : A) → get_elem? l i ≡ some a → P a
    of_all l all i a e = subst P (get_here l i a e) (all i a (inside l i a e))

    pub all_of : (l : List A) → ((i : ℕ) (a : A) → get_elem? l i ≡ some a → P a) → All P l
    all_of l each i a lt = each i (get_or l i a) (here_get l i a lt)

module _ {C : Type 0} where
  pub calls-append : (k : ℕ) (xs ys : List (ℕ × C)) → calls_of k (xs ++ ys) ≡ calls_of k xs ++ calls_of k ys
  calls-append k xs ys =
      ap (map (λ (e : ℕ × C). e.1)) (filter-append (λ e. e.0 == k) xs ys)
      ∙ map-append (λ (e : ℕ × C). e.1) (filter (λ e. e.0 == k) xs) (filter (λ e. e.0 == k) ys)

  pub calls_own : (k : ℕ) (xs : List (ℕ × C)) (c : C)
      → calls_of k (xs ++ (k, c) ∷ []) ≡ calls_of k xs ++ c ∷ []
  calls_own k xs c =
      calls-append k xs ((k, c) ∷ []) ∙ subst (λ b. calls_of k xs
      ++ map (λ (e : ℕ × C). e.1) (cond b ((k, c) ∷ []) []) ≡ calls_of k xs ++ c ∷ []) (sym (eq-eqb k k refl))
      refl

  pub calls_other : (k j : ℕ) (xs : List (ℕ × C)) (c : C) → k ≢ j
      → calls_of k (xs ++ (j, c) ∷ []) ≡ calls_of k xs
  calls_other k j xs c apart =
      calls-append k xs ((j, c) ∷ []) ∙ (subst (λ b. calls_of k xs
      ++ map (λ (e : ℕ × C). e.1) (cond b ((j, c) ∷ []) []) ≡ calls_of k xs ++ [])
      (sym (ne_eqb j k (λ e. apart (sym e)))) refl ∙ append-nil (calls_of k xs))

  -- a seat at the head of a history has calls
  calls_first : (e : ℕ × C) (es : List (ℕ × C)) → calls_of e.0 (e ∷ es) ≡ [] → ⊥
  calls_first e es none =
      let some_call : e.1 ∷ calls_of e.0 es ≡ [] =
      subst (λ b. map (λ (x : ℕ × C). x.1) (cond b (e ∷ filter (λ x. x.0 == e.0) es)
      (filter (λ x. x.0 == e.0) es)) ≡ []) (eq-eqb e.0 e.0 refl) none in absurd cc

  calls_rest : (k : ℕ) (e : ℕ × C) (es : List (ℕ × C)) → (b : Bool)
      → map (λ (x : ℕ × C). x.1) (cond b (e ∷ filter (λ x. x.0 == k) es) (filter (λ x. x.0 == k) es)) ≡ []
      → calls_of k es ≡ []
  calls_rest k e es true none = absurd cc
  calls_rest k e es false none = none

  -- where no seat from this number on has calls, each entry's seat is below it
  pub all_made : (seats : ℕ) (log : List (ℕ × C)) → ((k : ℕ) → seats ≤ k → calls_of k log ≡ [])
      → All (λ (e : ℕ × C). e.0 < seats) log
  all_made seats [] none i d lt = absurd (omega arith)
  all_made seats (e ∷ es) none zero d lt =
      ⊎_elim (λ (le : seats ≤ e.0). absurd (calls_first e es (none e.0 le))) (λ (below : e.0 < seats). below)
      (le_or_lt seats e.0)
  all_made seats (e ∷ es) none (suc i) d lt =
      all_made seats es (λ k le. calls_rest k e es (e.0 == k) (none k le)) i d (omega arith)
