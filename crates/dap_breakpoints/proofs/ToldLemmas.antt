-- Breakpoints that an editor is told of by their places in a list, and what is read of their options.
use Rattle.std.proofs.Common.{◌≡◌, ◌+◌, ◌⊎◌, ℕ, zero, suc, List, [], ◌∷◌, map, inl, inr, refl, ap, ◌∙◌}
use Rattle.std.proofs.Common.{Bool, true, false, Option, Some, None, Result, Ok, Err, arith}
use Rattle.std.proofs.lemmas.List.Elements.{Contains-append_cases, Contains-append_right, Contains-push_cases}
use Rattle.std.specs.Prelude.{slice_get, option_map}
use Rattle.std.specs.List.{Contains, cons_option, filter_map}
use Rattle.base_text.specs.Bytes.{Text}
use Rattle.asm_syntax.specs.Outcome.{Fault, ◌>>=◌}
use Rattle.lab_core.specs.Board.{Board}
use Rattle.dap_expr.specs.declared.expression.Expression.{Expression}
use Rattle.dap_expr.specs.Expressions.{expression_of}
use Rattle.dap_slice.specs.declared.conditions.Trigger.{Trigger}
use Rattle.dap_slice.specs.declared.hits.HitCondition.{HitCondition}
use Rattle.dap_messages.specs.declared.message.BreakpointNote.{BreakpointNote}
use Rattle.dap_messages.specs.declared.message.BreakpointOptions.{BreakpointOptions}
use Rattle.dap_messages.specs.declared.message.PlacedBreakpoint.{PlacedBreakpoint}
use Rattle.dap_points.specs.Placed.{points_by}
use Rattle.dap_conditions.specs.HitConditions.{hit_condition_of}
use Rattle.dap_conditions.specs.Conditions.{condition_objection, expression_objection, hit_objection}
use Rattle.dap_conditions.specs.Conditions.{objection}
use Rattle.dap_conditions.specs.Conditions.{hit_objection_to, first_objection, condition_read, hits_read}
use Rattle.dap_conditions.specs.Conditions.{stop_at, stop_by}
use Rattle.dap_breakpoints.specs.Laws.{IsToldAs, IsRead}

-- ---- elements of lists

in_cases : {X : Type 0} (x : X) (xs : List X) (y : X) → Contains (x ∷ xs) y → (x ≡ y) ⊎ Contains xs y
in_cases x xs y has =
    elim (Contains-append_cases (x ∷ []) xs y has) [
      | inl alone ↦
          elim (Contains-push_cases [] x y alone)
          [ inl none ↦ absurd (omega (arith, none.1)) | inr same ↦ inl same ]
      | inr later ↦ inr later
    ]

at_head : {A : Type 0} (given : Option A) (others : List A) (y : A) → given ≡ Some y
    → Contains (cons_option given others) y
at_head None others y is = absurd cc
at_head (Some z) others y is = let same : z ≡ y = cc in (zero, omega arith, same)

behind : {A : Type 0} (given : Option A) (others : List A) (y : A) → Contains others y
    → Contains (cons_option given others) y
behind None others y has = has
behind (Some z) others y has = Contains-append_right (z ∷ []) others y has

-- what is given of an element is among what is given of all
pub in_all : {X A : Type 0} (f : X → Option A) (xs : List X) (x : X) (y : A) → Contains xs x → f x ≡ Some y
    → Contains (filter_map f xs) y
in_all f [] x y has gives = absurd (omega (arith, has.1))
in_all f (z ∷ zs) x y has gives =
    elim (in_cases z zs x has) [
      | inl same ↦ at_head (f z) (filter_map f zs) y (ap f same ∙ gives)
      | inr later ↦ behind (f z) (filter_map f zs) y (in_all f zs x y later gives)
    ]

-- each of them is given of an element
pub record IsOfOne {X A : Type 0} (f : X → Option A) (xs : List X) (y : A) : Type 0 where
  pub item : X
  pub has : Contains xs item
  pub gives : f item ≡ Some y

one_on : {X A : Type 0} (f : X → Option A) (x : X) (xs : List X) (y : A) → IsOfOne f xs y
    → IsOfOne f (x ∷ xs) y
one_on f x xs y one = record {
  item = one.item;
  has = Contains-append_right (x ∷ []) xs one.item one.has;
  gives = one.gives;
}

from_either : {X A : Type 0} (f : X → Option A) (x : X) (xs : List X) (y : A) (given : Option A)
    → f x ≡ given → (Contains (filter_map f xs) y → IsOfOne f xs y)
    → Contains (cons_option given (filter_map f xs)) y → IsOfOne f (x ∷ xs) y
from_either f x xs y None is others has = one_on f x xs y (others has)
from_either f x xs y (Some z) is others has =
    elim (in_cases z (filter_map f xs) y has) [
      | inl same ↦
          record { item = x; has = (zero, omega arith, refl); gives = is ∙ ap (λ z. Some z) same }
      | inr later ↦ one_on f x xs y (others later)
    ]

pub from_all : {X A : Type 0} (f : X → Option A) (xs : List X) (y : A) → Contains (filter_map f xs) y
    → IsOfOne f xs y
from_all f [] y has = absurd (omega (arith, has.1))
from_all f (x ∷ xs) y has = from_either f x xs y (f x) refl (from_all f xs y) has

-- ---- breakpoints by their places

-- a breakpoint's place is that in the list
point_at : {C D : Type 0} (point : ℕ → C → PlacedBreakpoint) (checked : D → C) (ds : List D) (k i : ℕ) (d : D)
    → slice_get ds i ≡ Some d
    → slice_get (points_by point k (map checked ds)) i ≡ Some (point (k + i) (checked d))
point_at point checked [] k i d at = absurd cc
point_at point checked (x ∷ xs) k zero d at =
    let same : x ≡ d = cc in
    let here : k + 0 ≡ k = omega arith in
    rw (same, here) refl
point_at point checked (x ∷ xs) k (suc i) d at =
    let there : k + suc i ≡ (k + 1) + i = omega arith in
    rw there (point_at point checked xs (k + 1) i d at)

pub told_is : {C D : Type 0} (point : ℕ → C → PlacedBreakpoint) (checked : D → C) (ds : List D) (d : D)
    (p : PlacedBreakpoint) (told : IsToldAs ds (points_by point 0 (map checked ds)) d p)
    → point (0 + told.index) (checked d) ≡ p
told_is point checked ds d p told =
    let at = point_at point checked ds 0 told.index d told.of_request in cc

-- one that an editor is told of is one of the request
pub asked_at : {C D : Type 0} (point : ℕ → C → PlacedBreakpoint) (checked : D → C) (ds : List D) (k i : ℕ)
    (p : PlacedBreakpoint)
    → slice_get (points_by point k (map checked ds)) i ≡ Some p → (d : D) × (slice_get ds i ≡ Some d)
asked_at point checked [] k i p at = absurd cc
asked_at point checked (x ∷ xs) k zero p at = (x, refl)
asked_at point checked (x ∷ xs) k (suc i) p at = asked_at point checked xs (k + 1) i p at

-- ---- options to which there is nothing to object

expression_if : (b : Board) (read : Result Expression Fault) → expression_objection b read ≡ None
    → (e : Option Expression) × ((read >>= λ condition. Ok (Some condition)) ≡ Ok e)
expression_if b (Err fault) none = absurd cc
expression_if b (Ok e) none = (Some e, refl)

condition_if : (b : Board) (condition : Option Text) → condition_objection b condition ≡ None
    → (e : Option Expression) × (condition_read condition ≡ Ok e)
condition_if b None none = (None, refl)
condition_if b (Some text) none = expression_if b (expression_of text) none

some_if : (read : Option HitCondition) → hit_objection_to read ≡ None
    → (hits : Option HitCondition) × (option_map Some read ≡ Some hits)
some_if None none = absurd cc
some_if (Some condition) none = (Some condition, refl)

hits_if : (condition : Option Text) → hit_objection condition ≡ None
    → (hits : Option HitCondition) × (hits_read condition ≡ Some hits)
hits_if None none = (None, refl)
hits_if (Some text) none = some_if (hit_condition_of text) none

neither : (first second : Option BreakpointNote) → first_objection first second ≡ None
    → (first ≡ None) × (second ≡ None)
neither (Some why) second none = absurd cc
neither None second none = (refl, none)

-- what is read of them, and the breakpoint that they make
pub record Stops (o : BreakpointOptions) : Type 0 where
  pub condition : Option Expression
  pub hits : Option HitCondition
  pub read : IsRead o condition hits
  pub stop : (id : ℕ) (trigger : Trigger) → stop_by id trigger o ≡ Some (stop_at id trigger condition hits)

pub stops_if : (b : Board) (o : BreakpointOptions) (has_texts : Bool) → objection b o has_texts ≡ None
    → Stops o
stops_if b o false none = absurd cc
stops_if b o true none =
    let to_any = neither (condition_objection b o.condition) _ none in
    let to_other = neither (hit_objection o.hit_condition) _ to_any.1 in
    let condition = condition_if b o.condition to_any.0 in
    let hits = hits_if o.hit_condition to_other.0 in record {
      condition = condition.0;
      hits = hits.0;
      read = record { condition_is = condition.1; hits_are = hits.1 };
      stop = λ id trigger. rw (condition.1, hits.1) refl;
    }
