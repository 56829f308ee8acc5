-- What spells a tree has the shape of an expression.
use Rattle.std.proofs.Common.{◌≡◌, ℕ, suc, List, ◌∷◌, ◌++◌, Option, Some, refl, ap, append_assoc, ◌∙◌}
use Rattle.asm_expr.specs.Tree as tree
use Rattle.asm_expr.specs.declared.expression.Unary.{Unary}
use Rattle.asm_expr.specs.declared.expression.Binary.{Binary}
use Rattle.asm_syntax.specs.Lexemes.{Lexeme, Sign}
use Rattle.asm_lex.specs.declared.shape.Place.{Place}
use Rattle.asm_lex.specs.declared.shape.Place.TheVariants.{BeforeOperand, AfterOperand}
use Rattle.asm_lex.specs.Operators.{prefix_of, infix_of}
use Rattle.asm_lex.specs.Reading.{Spells}
use Rattle.asm_lex.specs.Shape.{shape, next_place}

next_prefix : (opened : ℕ) (l : Lexeme) (op : Unary) → prefix_of l ≡ Some op
    → next_place (BeforeOperand opened) l ≡ Some (BeforeOperand opened)
next_prefix opened l op e = rw e refl

next_infix : (opened : ℕ) (l : Lexeme) (op : Binary) → infix_of l ≡ Some op
    → next_place (AfterOperand opened) l ≡ Some (BeforeOperand opened)
next_infix opened l op e = rw e refl

pub shape-prefix : (opened : ℕ) (l : Lexeme) (ls : List Lexeme) (op : Unary) → prefix_of l ≡ Some op
    → shape (Some (BeforeOperand opened)) (l ∷ ls) ≡ shape (Some (BeforeOperand opened)) ls
unfolding shape
shape-prefix opened l ls op e = ap (λ (p : Option Place). shape p ls) (next_prefix opened l op e)

pub shape-infix : (opened : ℕ) (l : Lexeme) (ls : List Lexeme) (op : Binary) → infix_of l ≡ Some op
    → shape (Some (AfterOperand opened)) (l ∷ ls) ≡ shape (Some (BeforeOperand opened)) ls
unfolding shape
shape-infix opened l ls op e = ap (λ (p : Option Place). shape p ls) (next_infix opened l op e)

pub shape-spelled : (t : tree.Tree) (opened : ℕ) (ls rest : List Lexeme) → Spells t ls
    → shape (Some (BeforeOperand opened)) (ls ++ rest) ≡ shape (Some (AfterOperand opened)) rest
unfolding shape
shape-spelled (tree.Number n) opened ls rest s = rw s refl
shape-spelled tree.Here opened ls rest s = rw s refl
shape-spelled (tree.Named x) opened ls rest s = rw s refl
shape-spelled (tree.Prefix op a) opened ls rest s =
    rw s.2 (shape-prefix opened s.0 (s.1 ++ rest) op s.3 ∙ shape-spelled a opened s.1 rest s.4)
shape-spelled (tree.Infix op a b) opened ls rest s =
    rw (s.3, append_assoc)
    (shape-spelled a opened s.0 (s.1 ∷ (s.2 ++ rest)) s.5
    ∙ shape-infix opened s.1 (s.2 ++ rest) op s.4 ∙ shape-spelled b opened s.2 rest s.6)
shape-spelled (tree.Parens a) opened ls rest s =
    rw (s.1, append_assoc) (shape-spelled a (suc opened) s.0 (Sign 41 ∷ rest) s.2)
