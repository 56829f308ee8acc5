-- The names that are noted, one after the other.
use Rattle.std.proofs.Common.{◌≡◌, ℕ, ◌+◌, ◌<◌, ◌≤◌, List, [], ◌∷◌, ◌++◌, Bool, true, false, ◌||◌, length}
use Rattle.std.proofs.Common.{get_or, drop, refl, sym, ap, ◌∙◌}
use Rattle.std.specs.List.{flat_map}
use Rattle.std.specs.Str.{bytes_eq}
use Rattle.std.proofs.lemmas.List.{drop_all}
use Rattle.std.proofs.lemmas.List.Folds.{list_any-append}
use Rattle.asm_expr.specs.Tree.{names_of}
use Rattle.asm_syntax.specs.declared.statement.Data.{Data}
use Rattle.asm_syntax.specs.declared.statement.Data.TheVariants as datum
use Rattle.asm_build.specs.Statements.{names_in, names_in_datum, operands_in_data}
use Rattle.asm_build.specs.Layout.{is_among}
use Rattle.asm_encode.proofs.BytesLemmas.{next}

shifted : (a b c : Bool) → ((a || b) || c) ≡ (b || (a || c))
shifted true true c = refl
shifted true false c = refl
shifted false b c = refl

-- of what is left the names, and those that are noted already, are these
abbrev pub IsRest : {A : Type 0} → (A → List (List ℕ)) → List A → List (List ℕ) → List ℕ → Bool → Type 0
IsRest f xs noted x b = (is_among x (flat_map f xs) || is_among x noted) ≡ b

pub names_go : {A : Type 0} (f : A → List (List ℕ)) (xs : List A) (i : ℕ) (y : A)
    (before after : List (List ℕ)) (b : Bool) (x : List ℕ)
    → i < length xs → y ≡ get_or xs i y
    → is_among x after ≡ (is_among x (f y) || is_among x before)
    → IsRest f (drop i xs) before x b → IsRest f (drop (i + 1) xs) after x b
names_go f xs i y before after b x lt e grows was =
    let rest = flat_map f (drop (i + 1) xs) in
    ap (λ c. is_among x rest || c) grows
    ∙ sym (shifted (is_among x (f y)) (is_among x rest) (is_among x before))
    ∙ sym (ap (λ c. c || is_among x before) (list_any-append (bytes_eq x) (f y) rest))
    ∙ ap (λ ys. is_among x (flat_map f ys) || is_among x before) (sym (next xs i y lt e)) ∙ was

pub names_end : {A : Type 0} (f : A → List (List ℕ)) (xs : List A) (i : ℕ) (before : List (List ℕ)) (b : Bool)
    (x : List ℕ)
    → length xs ≤ i → IsRest f (drop i xs) before x b → is_among x before ≡ b
names_end f xs i before b x le was =
    ap (λ ys. is_among x (flat_map f ys) || is_among x before) (sym (drop_all i xs le)) ∙ was

pub data_names : (ds : List Data) → flat_map names_in_datum ds ≡ names_in (operands_in_data ds)
data_names [] = refl
data_names (datum.Text t ∷ ds) = data_names ds
data_names (datum.Byte o ∷ ds) = ap (λ ns. names_of o.expr ++ ns) (data_names ds)
