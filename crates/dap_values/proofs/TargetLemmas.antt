-- Names alone.
use Rattle.std.proofs.Common.{◌≡◌, ◌≢◌, ◌≤◌, ℕ, List, [], ◌∷◌, map, Some, None, refl, arith}
use Rattle.std.proofs.Common.{sym, ap, ◌∙◌, option_map}
use Rattle.std.specs.Prelude.{slice_get}
use Rattle.asm_expr.specs.Tree as tree
use Rattle.asm_expr.specs.Tree.{Tree, depth_of, names_of}
use Rattle.dap_values.specs.Targets.{name_alone}

positive : (t : Tree) → 1 ≤ depth_of t
positive (tree.Number n) = omega arith
positive tree.Here = omega arith
positive (tree.Named x) = omega arith
positive (tree.Prefix op a) = omega arith
positive (tree.Infix op a b) = omega arith
positive (tree.Parens a) = omega arith

pub deeper : (t : Tree) → depth_of t ≢ 1 → name_alone t ≡ None
deeper (tree.Number n) h = refl
deeper tree.Here h = refl
deeper (tree.Named x) h = absurd (h refl)
deeper (tree.Prefix op a) h = refl
deeper (tree.Infix op a b) h = refl
deeper (tree.Parens a) h = refl

-- a tree of one level is the first of its names, if it has one
pub alone : (t : Tree) → depth_of t ≡ 1 → name_alone t ≡ slice_get (names_of t) 0
alone (tree.Number n) h = refl
alone tree.Here h = refl
alone (tree.Named x) h = refl
alone (tree.Prefix op a) h = absurd (omega (arith, positive a, h))
alone (tree.Infix op a b) h = absurd (omega (arith, positive a, positive b, h))
alone (tree.Parens a) h = absurd (omega (arith, positive a, h))

-- the same for a list of what has the names
pub alone_first : {A : Type 0} (f : A → List ℕ) (xs : List A) (x : A) (t : Tree) → depth_of t ≡ 1
    → map f xs ≡ names_of t → slice_get xs 0 ≡ Some x → name_alone t ≡ Some (f x)
alone_first f [] x t deep names first = absurd cc
alone_first f (y ∷ ys) x t deep names first =
    alone t deep ∙ ap (λ (ns : List (List ℕ)). slice_get ns 0) (sym names)
    ∙ ap (option_map f) first
