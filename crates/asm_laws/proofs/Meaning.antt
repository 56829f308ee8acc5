-- The laws of the definition of expressions.
use Rattle.std.proofs.Common.{◌≡◌, ℕ, List, [], ◌↔◌, IsTrue, Bool, true, false, Some, Err, refl, sym, ap, ◌∙◌}
use Rattle.std.proofs.Common.{arith, append-nil, inl, inr, ◌≤◌, ◌<◌}
use Rattle.std.specs.Prelude.{nat_le}
use Rattle.std.proofs.lemmas.Bool.Decides.{nat_tests}
use Rattle.asm_expr.specs.Tree.{Tree, depth_of}
use Rattle.asm_syntax.specs.declared.fault.FaultKind.TheVariants as kind
use Rattle.asm_syntax.specs.Outcome.{◌>>=◌}
use Rattle.asm_syntax.specs.Lexemes.{Lexeme, Piece}
use Rattle.asm_lex.specs.declared.shape.Place.TheVariants.{BeforeOperand}
use Rattle.asm_lex.specs.Operators.{symbols}
use Rattle.asm_lex.specs.Shape.{shape, is_expression}
use Rattle.asm_lex.specs.Climb.{expr_at, expression, first_column, whole}
use Rattle.asm_lex.specs.Reading.{Spells, IsTreeOf, within_depth}
use Rattle.asm_laws.proofs.Shapes.{shape-spelled}
use Rattle.asm_laws.proofs.Trees.{Found_whole, found_whole}
use Rattle.asm_laws.proofs.OperandReadings.{reading_of}

shaped : (t : Tree) (ls : List Lexeme) → Spells t ls → shape (Some (BeforeOperand 0)) ls ≡ true
unfolding shape
shaped t ls s =
    ap (λ (r : List Lexeme). shape (Some (BeforeOperand 0)) r) (sym (append-nil ls))
    ∙ shape-spelled t 0 ls [] s

pub expression_is : (column : ℕ) (ps : List Piece) (t : Tree) → IsTreeOf t ps
    → expression column ps ≡ within_depth (first_column ps) t
unfolding expression
expression_is column ps t r =
    rw (shaped t (symbols ps) r.0) (by (found_whole t (first_column ps) (symbols ps) r.1 r.0))
  where
    by : Found_whole (first_column ps) 64 0 t (symbols ps) []
        → (expr_at (first_column ps) 64 0 (symbols ps) >>= whole column (first_column ps))
        ≡ within_depth (first_column ps) t
    by (inl x) =
        let h : depth_of t ≤ 64 = x.0 in
        let fits : nat_le (depth_of t) 64 ≡ true = grind (arith, nat_tests) in
        rw (x.1, fits) refl
    by (inr x) =
        let h : 64 < depth_of t = x.0 in
        let deep : nat_le (depth_of t) 64 ≡ false = grind (arith, nat_tests) in
        rw (x.1, deep) refl

pub shape_is : (ps : List Piece) → IsTrue (is_expression ps) ↔ ((t : Tree) × IsTreeOf t ps)
shape_is ps = (
  λ h. let r = reading_of (symbols ps) h in (r.0, (r.1, r.2)),
  λ x. shaped x.0 (symbols ps) x.1.0,
)

pub no_expression : (column : ℕ) (ps : List Piece) → ((t : Tree) → IsTreeOf t ps → ⊥)
    → expression column ps ≡ Err (column, kind.Operands)
unfolding expression
no_expression column ps none = by (is_expression ps) refl
  where
    by : (b : Bool) → is_expression ps ≡ b → expression column ps ≡ Err (column, kind.Operands)
    by true e = let r = reading_of (symbols ps) e in absurd (none r.0 (r.1, r.2))
    by false e = rw e refl
