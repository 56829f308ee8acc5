-- Guests and the passes of their seats.
use Rattle.std.proofs.Common.{◌≡◌, ◌≢◌, ℕ, zero, suc, ◌+◌, ◌*◌, ◌<◌, ◌≤◌, inl, inr, List, [], ◌∷◌, ◌++◌}
use Rattle.std.proofs.Common.{length, set, get_or, Option, Some, None, slice_get, refl, sym, ap, ◌∙◌, subst}
use Rattle.std.proofs.Common.{arith, All, length-append}
use Rattle.std.proofs.lemmas.Bool.{cases_lt}
use Rattle.std.proofs.lemmas.List.{get_or-set_same, get_or-set_other}
use Rattle.std.proofs.lemmas.List.Elements.{Contains-append_left, Contains-append_right}
use Rattle.std.proofs.lemmas.List.Elements.{Contains-push, All-push, All-append}
use Rattle.lab_turn.specs.History.{PassState, TurnstileState, FreshFrom, fresh_pass}
use Rattle.kern_calls.specs.declared.call.Call.{Call}
use Rattle.kern_host.specs.declared.guest.Passes.{Passes}
use Rattle.kern_host.specs.Guests.{GuestState, AreOf, passes_in, without_passes}
use Rattle.kern_host.specs.Hosting.{HasBoth, seated_at}

-- ---- the last pass

get_before : {A : Type 0} (xs : List A) (x : A) (k : ℕ) → k < length xs
    → slice_get (xs ++ x ∷ []) k ≡ slice_get xs k
get_before [] x k lt = absurd (omega (arith, lt))
get_before (y ∷ ys) x zero lt = refl
get_before (y ∷ ys) x (suc k) lt = get_before ys x k (omega (arith, lt))

get_last : {A : Type 0} (xs : List A) (x : A) → slice_get (xs ++ x ∷ []) (length xs) ≡ Some x
get_last [] x = refl
get_last (y ∷ ys) x = get_last ys x

pub fresh_before : (t : TurnstileState) (all xs : List (PassState Call)) (x : PassState Call)
    → all ≡ xs ++ x ∷ []
    → FreshFrom 0 t all → FreshFrom 0 t xs
fresh_before t all xs x is f k lt =
    let n = ap length is in
    sym (get_before xs x k lt) ∙ ap (λ (l : List (PassState Call)). slice_get l k) (sym is)
    ∙ f k (omega (arith, n, lt, length-append xs (x ∷ [])))

some_is : {A : Type 0} (x y : A) → Some x ≡ Some y → x ≡ y
some_is x y e = cc

pub fresh_last : (t : TurnstileState) (all xs : List (PassState Call)) (x : PassState Call)
    → all ≡ xs ++ x ∷ []
    → FreshFrom 0 t all → x ≡ fresh_pass t (length xs)
fresh_last t all xs x is f =
    let n = ap length is in
    let z : 0 + length xs ≡ length xs = omega arith in
    some_is x (fresh_pass t (length xs))
    (sym (get_last xs x) ∙ ap (λ (l : List (PassState Call)). slice_get l (length xs)) (sym is)
    ∙ f (length xs) (omega (arith, n, length-append xs (x ∷ [])))
    ∙ ap (λ (k : ℕ). Some (fresh_pass t k)) z)

-- ---- guests that sit down, from the last one on

-- those from this place on have the passes of their seats, and those before are as they were
pub record SeatedFrom (first : ℕ) (desk : TurnstileState) (old new : List GuestState) : Type 0 where
  pub before : (k : ℕ) (d : GuestState) → k < first → get_or new k d ≡ get_or old k d
  pub behind : (k : ℕ) (d : GuestState) → first ≤ k → k < length old
      → get_or new k d ≡ seated_at desk k (get_or old k d)

pub seated_none : (desk : TurnstileState) (old : List GuestState) (n : ℕ) → n ≡ length old
    → SeatedFrom n desk old old
seated_none desk old n e = record {
  before = λ k d lt. refl;
  behind = λ k d le lt. absurd (omega
      (arith, e, le, lt));
}

pub seated_next : (n p : ℕ) (desk : TurnstileState) (old mid new : List GuestState) (passes : Option Passes)
    → n ≡ p + 1 → p < length old → length mid ≡ length old
    → ((d : GuestState) → get_or new p d ≡ record (get_or mid p d) { passes = passes })
    → ((k : ℕ) (d : GuestState) → k ≢ p → get_or new k d ≡ get_or mid k d)
    → passes ≡ Some (record { reading = fresh_pass desk (2 * p); writing = fresh_pass desk (2 * p + 1) })
    → SeatedFrom n desk old mid → SeatedFrom p desk old new
seated_next n p desk old mid new passes is lt len here there are s = record {
  before = λ k d below. there k d (omega (arith, below)) ∙ s.before k d (omega (arith, is, below));
  behind = λ k d from inside. elim (cases_lt p k) [
    | inl behind ↦ there k d (omega (arith, behind)) ∙ s.behind k d (omega (arith, is, behind)) inside
    | inr le ↦ (let e : k ≡ p = omega (arith, from, le) in
        let P : ℕ → Type 0 = λ j. get_or new j d ≡ seated_at desk j (get_or old j d) in
        subst P (sym e) (here d
        ∙ ap (λ (g : GuestState). record g { passes = passes }) (s.before p d (omega (arith, is)))
        ∙ ap (λ (q : Option Passes). record (get_or old p d) { passes = q }) are))
  ];
}

any_default : {A : Type 0} (xs : List A) (i : ℕ) (d e : A) → i < length xs → get_or xs i d ≡ get_or xs i e
any_default [] i d e lt = absurd (omega (arith, lt))
any_default (x ∷ xs) zero d e lt = refl
any_default (x ∷ xs) (suc i) d e lt = any_default xs i d e (omega (arith, lt))

pub seated_step : (n p : ℕ) (desk : TurnstileState) (old mid : List GuestState) (x y : GuestState)
    (passes : Passes)
    → n ≡ p + 1 → p < length old → length mid ≡ length old
    → y ≡ record (get_or mid p x) { passes = Some passes } → passes.reading ≡ fresh_pass desk (2 * p)
    → passes.writing ≡ fresh_pass desk (2 * p + 1) → SeatedFrom n desk old mid
    → SeatedFrom p desk old (set mid p y)
seated_step n p desk old mid x y passes is lt len sits reading writing s =
    let inside : p < length mid = omega (arith, lt, len) in
    let G : PassState Call → PassState Call
    → Option Passes = λ a b. Some (record { reading = a; writing = b }) in
    seated_next n p desk old mid (set mid p y) (Some passes) is lt len
    (λ d. get_or-set_same mid p y d inside ∙ sits
    ∙ ap (λ (g : GuestState). record g { passes = Some passes }) (any_default mid p x d inside))
    (λ k d away. get_or-set_other mid p k y d away)
    (ap (λ (a : PassState Call). G a passes.writing) reading
    ∙ ap (λ (b : PassState Call). G (fresh_pass desk (2 * p)) b) writing)
    s

-- ---- guests that give their passes back

pub has_both_on : (a b : List (PassState Call)) (q : Option Passes) → HasBoth a q → HasBoth (a ++ b) q
has_both_on a b None h = absurd h
has_both_on a b (Some p) h = (Contains-append_left a b p.reading h.0, Contains-append_left a b p.writing h.1)

pub has_both_here : (desk : TurnstileState) (a : List (PassState Call)) (q : Option Passes) → AreOf desk q
    → HasBoth (a ++ passes_in q) q
has_both_here desk a None h = absurd h
has_both_here desk a (Some p) h = (
  Contains-append_right a (p.reading ∷ p.writing ∷ []) p.reading (Contains-append_left (p.reading ∷ [])
      (p.writing ∷ []) p.reading (Contains-push [] p.reading)),
  Contains-append_right a (p.reading ∷ p.writing ∷ []) p.writing (Contains-push (p.reading ∷ []) p.writing),
)

pub own_on : (desk : TurnstileState) (a : List (PassState Call)) (q : Option Passes) → AreOf desk q
    → All (λ (p : PassState Call). p.turnstile ≡ desk) a
    → All (λ (p : PassState Call). p.turnstile ≡ desk) (a ++ passes_in q)
own_on desk a None h all = absurd h
own_on desk a (Some p) h all =
    let P : PassState Call → Type 0 = λ (p : PassState Call). p.turnstile ≡ desk in
    All-append P a (p.reading ∷ p.writing ∷ []) all
    (All-append P (p.reading ∷ []) (p.writing ∷ []) (All-push P [] p.reading (λ i d lt. absurd (omega
    (arith, lt))) h.0)
    (All-push P [] p.writing (λ i d lt. absurd (omega (arith, lt))) h.1))

pub two_of : (desk : TurnstileState) (q : Option Passes) → AreOf desk q → length (passes_in q) ≡ 2
two_of desk None h = absurd h
two_of desk (Some p) h = refl

-- those before this place have given their passes back, and the others are as they were
pub record GivenBelow (place : ℕ) (desk : TurnstileState) (old new : List GuestState) (back : List
    (PassState Call))
    : Type 0 where
  pub given : (k : ℕ) (d : GuestState) → k < place
      → (get_or new k d ≡ without_passes (get_or old k d)) × HasBoth back (get_or old k d).passes
  pub others : (k : ℕ) (d : GuestState) → place ≤ k → get_or new k d ≡ get_or old k d
  pub own : All (λ (p : PassState Call). p.turnstile ≡ desk) back
  pub count : length back ≡ 2 * place

pub given_next : (place : ℕ) (desk : TurnstileState) (old mid new : List GuestState) (a b : List
    (PassState Call))
    (g : GuestState) → ((d : GuestState) → get_or old place d ≡ g) → AreOf desk g.passes
    → ((d : GuestState) → get_or new place d ≡ without_passes (get_or mid place d))
    → ((k : ℕ) (d : GuestState) → k ≢ place → get_or new k d ≡ get_or mid k d)
    → b ≡ a ++ passes_in g.passes → GivenBelow place desk old mid a → GivenBelow (place + 1) desk old new b
given_next place desk old mid new a b g at of here there is s =
    let B : List (PassState Call) → Type 0 = λ l. GivenBelow (place + 1) desk old new l in
    subst B (sym is) (record {
      given = λ k d lt. elim (cases_lt k place) [
        | inl below ↦ (
          there k d (omega (arith, below)) ∙ (s.given k d below).0,
          has_both_on a (passes_in g.passes) (get_or old k d).passes (s.given k d below).1,
        )
        | inr le ↦ (let e : k ≡ place = omega (arith, lt, le) in
            let P : ℕ → Type 0 = λ j. (get_or new j d ≡ without_passes (get_or old j d))
            × HasBoth (a ++ passes_in g.passes) (get_or old j d).passes in
            let Q : GuestState → Type 0 = λ h. HasBoth (a ++ passes_in g.passes) h.passes in
            subst P (sym e) (
              here d ∙ ap without_passes (s.others place d (omega arith)),
              subst Q (sym (at d)) (has_both_here desk a g.passes of),
            ))
      ];
      others = λ k d le. there k d (omega (arith, le)) ∙ s.others k d (omega (arith, le));
      own = own_on desk a g.passes of s.own;
      count = (let c = s.count in let t = two_of desk g.passes of in
          omega (arith, c, t, length-append a (passes_in g.passes)));
    })

pub given_step : (place : ℕ) (desk : TurnstileState) (old mid : List GuestState) (a b : List (PassState Call))
    (x y : GuestState) → place < length old → length mid ≡ length old
    → All (λ (g : GuestState). AreOf desk g.passes) old → y ≡ without_passes (get_or mid place x)
    → b ≡ a ++ passes_in (get_or mid place x).passes → GivenBelow place desk old mid a
    → GivenBelow (place + 1) desk old (set mid place y) b
given_step place desk old mid a b x y lt len own same is s =
    let inside : place < length mid = omega (arith, lt, len) in
    let here = get_or mid place x in
    let is_here : (d : GuestState) → get_or old place d ≡ here = λ d.
    sym (s.others place d (omega arith)) ∙ any_default mid place d x inside in
    let O : GuestState → Type 0 = λ g. AreOf desk g.passes in
    given_next place desk old mid (set mid place y) a b here is_here (subst O (is_here x) (own place x lt))
    (λ d. get_or-set_same mid place y d inside ∙ same ∙ ap without_passes (any_default mid place x d inside))
    (λ k d away. get_or-set_other mid place k y d away) is s
