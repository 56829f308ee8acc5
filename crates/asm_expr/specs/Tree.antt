-- Trees of expressions, their depth and their names (8080/8085 Assembly Language Programming
-- Manual, chapter 2, "Operand field").
use Rattle.std.specs.Prelude.{ℕ, ◌+◌, ◌<◌, ◌≤◌, List, [], ◌∷◌, ◌++◌, max}
use Rattle.asm_expr.specs.declared.expression.Unary.{Unary}
use Rattle.asm_expr.specs.declared.expression.Binary.{Binary}
use Rattle.asm_expr.specs.declared.expression.Atom.{Atom}
use Rattle.asm_expr.specs.declared.expression.Atom.TheVariants as atom
use Rattle.asm_expr.specs.declared.expression.TreeFault.{TreeFault}
use Rattle.asm_expr.specs.declared.expression.TreeFault.TheVariants.{OutOfMemory, Nesting}
use Rattle.asm_expr.specs.declared.expression.Node.{Node}
use Rattle.asm_expr.specs.declared.expression.Node.TheVariants as node

-- an expression: an atom, an operator with its operands, or parentheses around an expression
pub data Tree : Type 0 where
  Number : (n : ℕ) → Tree
  Here : Tree
  Named : (name : List ℕ) → Tree
  Prefix : (operator : Unary) (operand : Tree) → Tree
  Infix : (operator : Binary) (left right : Tree) → Tree
  Parens : (inner : Tree) → Tree

-- the tree of an atom
abbrev pub atom_of : Atom → Tree
atom_of (atom.Number n) = Number n
atom_of atom.Here = Here
atom_of (atom.Named x) = Named x

-- the tree that boxes in memory are
abbrev pub tree_of : Node → Tree
tree_of (node.Atom a) = atom_of a
tree_of (node.Prefix' op p a) = Prefix op (tree_of a)
tree_of (node.Infix' op p a q b) = Infix op (tree_of a) (tree_of b)
tree_of (node.Parens' p a) = Parens (tree_of a)

-- an atom is 1 deep, anything else 1 more than the deepest of its parts
abbrev pub depth_of : Tree → ℕ
depth_of (Number n) = 1
depth_of Here = 1
depth_of (Named x) = 1
depth_of (Prefix op a) = depth_of a + 1
depth_of (Infix op a b) = max (depth_of a) (depth_of b) + 1
depth_of (Parens a) = depth_of a + 1

-- the names in a tree, from the left
abbrev pub names_of : Tree → List (List ℕ)
names_of (Number n) = []
names_of Here = []
names_of (Named x) = x ∷ []
names_of (Prefix op a) = names_of a
names_of (Infix op a b) = names_of a ++ names_of b
names_of (Parens a) = names_of a

-- a tree of this depth is refused: Nesting where it is above 64, else out of memory
abbrev pub Refuses : TreeFault → ℕ → Type 0
Refuses OutOfMemory depth = depth ≤ 64
Refuses Nesting depth = 64 < depth
