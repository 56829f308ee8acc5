-- The numbers of the breakpoints at which a run is stopped.
use Rattle.std.proofs.Common.{◌≡◌, ◌↔◌, ◌⊎◌, ℕ, List, [], ◌∷◌, ◌++◌, Bool, true, false, ◌||◌, ◌==◌, ◌&&◌}
use Rattle.std.proofs.Common.{◌∙◌, if◌then◌else◌, is_none, refl, sym, ap, subst, ⊎_elim, inl, inr, arith}
use Rattle.std.proofs.lemmas.Bool.Decides.{nat_tests}
use Rattle.std.specs.List.{Contains, fold, list_any}
use Rattle.std.proofs.lemmas.List.Elements.{Contains-push, Contains-push_cases, Contains-append_left}
use Rattle.std.proofs.lemmas.List.Elements.{Contains-append_right, Contains-append_cases}
use Rattle.lab_core.specs.Board.{Board}
use Rattle.dap_slice.specs.declared.conditions.ConditionalBreakpoint.{ConditionalBreakpoint}
use Rattle.dap_slice.specs.declared.conditions.Trigger.{Trigger}
use Rattle.dap_slice.specs.declared.conditions.Trigger.TheVariants as trigger
use Rattle.dap_slice.specs.Hits.{is_wanted}
use Rattle.dap_slice.specs.Conditions.{holds_on}
use Rattle.dap_slice.specs.Stops.{leads_to, stops_behind, with_id, with_id_if, stop_ids, StopsBehind}
use Rattle.dap_slice.proofs.ValueLemmas.{SameMachine, same_condition}

abbrev Points : Type 0
Points = List ConditionalBreakpoint

abbrev Test : Type 0
Test = ConditionalBreakpoint → Bool

-- ---- one number more

found : (ids : List ℕ) (id : ℕ) → list_any (λ i. i == id) ids ≡ true → Contains ids id
found [] id is = absurd cc
found (i ∷ ids) id is = by (i == id) refl is (found ids id)
  where
    same : (i == id) ≡ true → i ≡ id
    same e = grind (arith, nat_tests)

    by : (here : Bool) → (i == id) ≡ here → (here || list_any (λ j. j == id) ids) ≡ true
        → (list_any (λ j. j == id) ids ≡ true → Contains ids id) → Contains (i ∷ ids) id
    by true e is rest = (0, omega arith, same e)
    by false e is rest = Contains-append_right (i ∷ []) ids id (rest is)

with-has : (ids : List ℕ) (id : ℕ) → Contains (with_id ids id) id
with-has ids id = by (list_any (λ i. i == id) ids) refl
  where
    by : (there : Bool) → list_any (λ i. i == id) ids ≡ there
        → Contains (if there then ids else ids ++ id ∷ []) id
    by true e = found ids id e
    by false e = Contains-push ids id

with-keeps : (ids : List ℕ) (id x : ℕ) → Contains ids x → Contains (with_id ids id) x
with-keeps ids id x has = by (list_any (λ i. i == id) ids)
  where
    by : (there : Bool) → Contains (if there then ids else ids ++ id ∷ []) x
    by true = has
    by false = Contains-append_left ids (id ∷ []) x has

with-only : (ids : List ℕ) (id x : ℕ) → Contains (with_id ids id) x → Contains ids x ⊎ (id ≡ x)
with-only ids id x has = by (list_any (λ i. i == id) ids) has
  where
    by : (there : Bool) → Contains (if there then ids else ids ++ id ∷ []) x → Contains ids x ⊎ (id ≡ x)
    by true has = inl has
    by false has = Contains-push_cases ids id x has

-- ---- those of a list

if-keeps : (test : Test) (ids : List ℕ) (p : ConditionalBreakpoint) (x : ℕ) → Contains ids x
    → Contains (with_id_if test ids p) x
if-keeps test ids p x has = by (test p)
  where
    by : (passes : Bool) → Contains (if passes then with_id ids p.id else ids) x
    by true = with-keeps ids p.id x has
    by false = has

fold-keeps : (test : Test) (points : Points) (ids : List ℕ) (x : ℕ) → Contains ids x
    → Contains (fold (with_id_if test) ids points) x
fold-keeps test [] ids x has = has
fold-keeps test (p ∷ ps) ids x has =
    fold-keeps test ps (with_id_if test ids p) x (if-keeps test ids p x has)

one-here : (test : Test) (ids : List ℕ) (p : ConditionalBreakpoint) → test p ≡ true
    → Contains (with_id_if test ids p) p.id
one-here test ids p is = rw is (with-has ids p.id)

fold-has : (test : Test) (points : Points) (ids : List ℕ) (p : ConditionalBreakpoint) → Contains points p
    → test p ≡ true → Contains (fold (with_id_if test) ids points) p.id
fold-has test [] ids p has is = absurd (omega (arith, has.1))
fold-has test (q ∷ qs) ids p has is =
    ⊎_elim
    (λ alone. ⊎_elim
    (λ none. absurd (omega (arith, none.1)))
    (λ same. fold-keeps test qs (with_id_if test ids q) p.id
    (subst (λ r. Contains (with_id_if test ids r) p.id) (sym same) (one-here test ids p is)))
    (Contains-push_cases [] q p alone))
    (λ later. fold-has test qs (with_id_if test ids q) p later is)
    (Contains-append_cases (q ∷ []) qs p has)

abbrev Passes : Test → Points → ℕ → Type 0
Passes test points x = (p : ConditionalBreakpoint) × Contains points p × (test p ≡ true) × (p.id ≡ x)

fold-only : (test : Test) (points : Points) (ids : List ℕ) (x : ℕ)
    → Contains (fold (with_id_if test) ids points) x → Contains ids x ⊎ Passes test points x
fold-only test [] ids x has = inl has
fold-only test (q ∷ qs) ids x has =
    ⊎_elim (λ before. by (test q) refl before)
    (λ later. inr (later.0, Contains-append_right (q ∷ []) qs later.0 later.1, later.2, later.3))
    (fold-only test qs (with_id_if test ids q) x has)
  where
    by : (passes : Bool) → test q ≡ passes → Contains (if passes then with_id ids q.id else ids) x
        → Contains ids x ⊎ Passes test (q ∷ qs) x
    by true e before =
        ⊎_elim (λ has. inl has) (λ same. inr (q, (0, omega arith, refl), e, same))
        (with-only ids q.id x before)
    by false e before = inl before

-- ---- on a board that a slice has left

stops-same : (was b b' : Board) (p : ConditionalBreakpoint) → SameMachine b b' → b'.loads ≡ b.loads
    → stops_behind was b p ≡ stops_behind was b' p
stops-same was b b' p same loads = by p.trigger
  where
    rest : Board → Bool
    rest x = is_none p.log && (is_wanted p.hits && holds_on x p.condition)

    by : (t : Trigger) → (leads_to was b t && rest b) ≡ (leads_to was b' t && rest b')
    by (trigger.Address address) = rw (same_condition b b' p.condition same, same.machine) refl
    by (trigger.Change place) = rw (same_condition b b' p.condition same, same.machine) refl
    by (trigger.Line line) = rw (same_condition b b' p.condition same, same.machine, loads) refl

fold-same : (f g : Test) → ((p : ConditionalBreakpoint) → f p ≡ g p) → (points : Points) (ids : List ℕ)
    → fold (with_id_if f) ids points ≡ fold (with_id_if g) ids points
fold-same f g same [] ids = refl
fold-same f g same (p ∷ ps) ids =
    ap (λ is. fold (with_id_if f) (if is then with_id ids p.id else ids) ps) (same p)
    ∙ fold-same f g same ps (with_id_if g ids p)

pub ids_same : (points : Points) (was b b' : Board) → SameMachine b b' → b'.loads ≡ b.loads
    → stop_ids points was b ≡ stop_ids points was b'
ids_same points was b b' same loads =
    fold-same (stops_behind was b) (stops_behind was b') (λ p. stops-same was b b' p same loads) points []

-- ---- the law

told : (points : Points) (was b : Board) (id : ℕ) → Contains (stop_ids points was b) id
    → StopsBehind points was b id
told points was b id has =
    ⊎_elim (λ none. absurd (omega (arith, none.1))) (λ passes. passes)
    (fold-only (stops_behind was b) points [] id has)

telling : (points : Points) (was b : Board) (id : ℕ) → StopsBehind points was b id
    → Contains (stop_ids points was b) id
telling points was b id stops =
    subst (λ i. Contains (stop_ids points was b) i) stops.3
    (fold-has (stops_behind was b) points [] stops.0 stops.1 stops.2)

pub each_told : (points : Points) (was b : Board) (id : ℕ)
    → Contains (stop_ids points was b) id ↔ StopsBehind points was b id
each_told points was b id = (told points was b id, telling points was b id)
