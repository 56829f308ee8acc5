-- What a condition asks of a board is its machine and its symbols.
use Rattle.std.proofs.Common.{◌≡◌, ℕ, ◌+◌, List, [], ◌∷◌, Bool, true, false, ◌&&◌, Result, Ok}
use Rattle.std.proofs.Common.{Err, Option, Some, None, if◌then◌else◌, refl}
use Rattle.asm_expr.specs.Tree.{Tree}
use Rattle.asm_syntax.specs.Outcome.{◌>>=◌}
use Rattle.lab_core.specs.Board.{Board}
use Rattle.dap_expr.specs.declared.brackets.Read.{Read}
use Rattle.dap_expr.specs.declared.clause.Clause.{Clause}
use Rattle.dap_expr.specs.declared.clause.Joint.{Joint}
use Rattle.dap_expr.specs.declared.clause.Joint.TheVariants as joint
use Rattle.dap_expr.specs.declared.expression.Expression.{Expression}
use Rattle.dap_expr.specs.declared.term.Term.{Term}
use Rattle.dap_expr.specs.Values.{tree_value, read_value, with_value, values_from, term_value}
use Rattle.dap_expr.specs.Values.{clause_value, is_true, holds_with, holds_after, holds_from, is_or}
use Rattle.dap_expr.specs.Values.{clauses_value, value_on}
use Rattle.dap_slice.specs.Conditions.{holds_on}

-- two boards with the same machine, and the same symbols
pub record SameMachine (b b' : Board) : Type 0 where
  pub machine : b.machine ≡ b'.machine
  pub symbols : b.symbols ≡ b'.symbols

-- ---- values

bind_same : {A B F : Type 0} (r r' : Result A F) (f g : A → Result B F) → r ≡ r' → ((a : A) → f a ≡ g a)
    → (r >>= f) ≡ (r' >>= g)
bind_same (Ok a) r' f g is same = rw (← is) (same a)
bind_same (Err e) r' f g is same = rw (← is) refl

same_tree : (b b' : Board) (values : List ℕ) (tree : Tree) → SameMachine b b'
    → tree_value b values tree ≡ tree_value b' values tree
same_tree b b' values tree same = rw (same.machine, same.symbols) refl

same_read : (b b' : Board) (values : List ℕ) (r : Read) → SameMachine b b'
    → read_value b values r ≡ read_value b' values r
same_read b b' values r same = rw (same.machine, same.symbols) refl

same_values : (b b' : Board) (number : ℕ) (values : List ℕ) (rs : List Read) → SameMachine b b'
    → values_from b number values rs ≡ values_from b' number values rs
unfolding values_from
same_values b b' number values [] same = refl
same_values b b' number values (r ∷ rs) same =
    bind_same _ _ _ _ (same_read b b' values r same)
    (λ value. same_values b b' (number + 1) (with_value values number value) rs same)

same_term : (b b' : Board) (t : Term) → SameMachine b b' → term_value b t ≡ term_value b' t
same_term b b' t same =
    bind_same _ _ _ _ (same_values b b' 0 _ t.reads same) (λ values. same_tree b b' values t.tree same)

same_clause : (b b' : Board) (c : Clause) → SameMachine b b' → clause_value b c ≡ clause_value b' c
same_clause b b' c same = bind_same _ _ _ _ (same_term b b' c.term same) (λ value. refl)

same_truth : (b b' : Board) (c : Clause) → SameMachine b b' → is_true b c ≡ is_true b' c
same_truth b b' c same = bind_same _ _ _ _ (same_clause b b' c same) (λ value. refl)

same_after : (b b' : Board) (holds : Bool) (c : Clause) → SameMachine b b'
    → holds_after b holds c ≡ holds_after b' holds c
same_after b b' holds c same = by holds c.joint
  where
    by : (holds : Bool) (j : Joint) → holds_with b holds c j ≡ holds_with b' holds c j
    by false joint.And = refl
    by false joint.Or = same_truth b b' c same
    by true j = same_truth b b' c same

by_end : {A F : Type 0} (ends : Bool) (x y z : Result A F) → y ≡ z
    → (if ends then x else y) ≡ (if ends then x else z)
by_end true x y z same = refl
by_end false x y z same = same

same_holds : (b b' : Board) (holds : Bool) (cs : List Clause) → SameMachine b b'
    → holds_from b holds cs ≡ holds_from b' holds cs
unfolding holds_from
same_holds b b' holds [] same = refl
same_holds b b' holds (c ∷ cs) same =
    by_end (holds && is_or c.joint) _ _ _
    (bind_same _ _ _ _ (same_after b b' holds c same) (λ next. same_holds b b' next cs same))

same_clauses : (b b' : Board) (cs : List Clause) → SameMachine b b' → clauses_value b cs ≡ clauses_value b' cs
same_clauses b b' [] same = bind_same _ _ _ _ (same_holds b b' false [] same) (λ holds. refl)
same_clauses b b' (c ∷ []) same = same_clause b b' c same
same_clauses b b' (c ∷ d ∷ cs) same =
    bind_same _ _ _ _ (same_holds b b' false (c ∷ d ∷ cs) same) (λ holds. refl)

same_value : (b b' : Board) (e : Expression) → SameMachine b b' → value_on b e ≡ value_on b' e
same_value b b' e same = same_clauses b b' e.clauses same

-- ---- conditions

pub same_condition : (b b' : Board) (condition : Option Expression) → SameMachine b b'
    → holds_on b condition ≡ holds_on b' condition
same_condition b b' None same = refl
same_condition b b' (Some e) same = rw (same_value b b' e same) refl
