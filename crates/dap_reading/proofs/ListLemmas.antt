-- The items of a list, one by one.
use Rattle.std.proofs.Common.{
  ◌≡◌,
  ℕ,
  ◌+◌,
  ◌<◌,
  List,
  [],
  ◌∷◌,
  ◌++◌,
  length,
  get_or,
  drop,
  Option,
  Some,
  None,
  option_map,
  option_and_then,
  refl,
  sym,
  ap,
  ◌∙◌,
  append_assoc,
}
use Rattle.std.proofs.lemmas.List.{at_drop_more}
use Rattle.serde_json.specs.Data.{Data}
use Rattle.serde_json.specs.View.{view, items_view}
use Rattle.serde_json.specs.declared.value.Value.{Value}
use Rattle.dap_reading.specs.EditorArgument.{all_of}

abbrev pub all_in : {T : Type 0} → (Data → Option T) → List Value → Option (List T)
all_in kind values = all_of kind (items_view values)

-- these, then the others
abbrev pub then_all : {T : Type 0} → List T → Option (List T) → Option (List T)
then_all xs rest = option_map (λ more. xs ++ more) rest

from_here : {T : Type 0} (kind : Data → Option T) (values : List Value) (i : ℕ) (v : Value) (r : Option T)
    → i < length values → v ≡ get_or values i v → kind (view v) ≡ r
    → all_in kind (drop i values)
    ≡ option_and_then (λ x. option_map (λ xs. x ∷ xs) (all_in kind (drop (i + 1) values))) r
from_here kind values i v r inside at is =
    at_drop_more (all_in kind) values i v inside ∙ ap (λ (y : Value). all_in kind (y ∷
    drop (i + 1) values)) (sym at)
    ∙ ap (option_and_then (λ x. option_map (λ xs. x ∷ xs) (all_in kind (drop (i + 1) values)))) is

pub one_has_none : {T : Type 0} (kind : Data → Option T) (values : List Value) (i : ℕ) (v : Value)
    → i < length values → v ≡ get_or values i v → kind (view v) ≡ None
    → all_in kind (drop i values) ≡ None
one_has_none kind values i v inside at none = from_here kind values i v None inside at none

then_one : {T : Type 0} (xs : List T) (x : T) (rest : Option (List T))
    → then_all xs (option_map (λ more. x ∷ more) rest) ≡ then_all (xs ++ x ∷ []) rest
then_one xs x None = refl
then_one xs x (Some more) = ap Some (sym (append_assoc xs (x ∷ []) more))

pub one_more : {T : Type 0} (kind : Data → Option T) (values : List Value) (i : ℕ) (v : Value)
    (xs : List T) (x : T)
    → i < length values → v ≡ get_or values i v → kind (view v) ≡ Some x
    → then_all (xs ++ x ∷ []) (all_in kind (drop (i + 1) values))
    ≡ then_all xs (all_in kind (drop i values))
one_more kind values i v xs x inside at is =
    sym (ap (then_all xs) (from_here kind values i v (Some x) inside at is)
    ∙ then_one xs x (all_in kind (drop (i + 1) values)))
