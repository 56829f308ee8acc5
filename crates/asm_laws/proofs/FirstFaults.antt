-- The laws, from what is known of a line and of a text once they were read.
use Rattle.std.proofs.Common.{◌≡◌, ◌↔◌, ℕ, List, refl, sym, ap, ◌∙◌, Result, Ok, Err, subst}
use Rattle.std.specs.Str.Lines.{lines}
use Rattle.asm_syntax.specs.declared.statement.Statement.{Statement}
use Rattle.asm_syntax.specs.Outcome.{Fault, CellFault}
use Rattle.asm_syntax.proofs.FirstFaults.{one_first}
use Rattle.asm_text.specs.Cells.{LinesSay, StandsInText, IsFaultOf, order}
use Rattle.asm_text.specs.Faults.{StandsOn, IsFirst, order_in_line}
use Rattle.asm_text.specs.Grammar.{LineSays}
use Rattle.asm_text.specs.Lines.{line_of}
use Rattle.asm_text.specs.Statements.{statements_of}
use Rattle.asm_laws.proofs.StatementFaults.{OnLine, line_judged}
use Rattle.asm_laws.proofs.TextFaults.{OfText, text_judged}

-- ---- lines

pub line_says : (line : List ℕ) (s : Statement)
    → (line_of line ≡ Ok s) ↔ (LineSays line s × ((f : Fault) → StandsOn line f → ⊥))
line_says line s = (to, λ x. by x (line_of line) refl (line_judged line))
  where
    to : line_of line ≡ Ok s → LineSays line s × ((f : Fault) → StandsOn line f → ⊥)
    to is = let v = subst (OnLine line) is (line_judged line) in (v.0, v.1)

    by : LineSays line s × ((f : Fault) → StandsOn line f → ⊥) → (r : Result Statement Fault)
        → line_of line ≡ r → OnLine line r → line_of line ≡ Ok s
    by x (Ok t) is v = is ∙ ap (λ (u : Statement). Ok u) (sym (v.2 s x.0))
    by x (Err f) is v = absurd (x.1 f v.0)

pub line_faulted : (line : List ℕ) (f : Fault) → (line_of line ≡ Err f) ↔ IsFirst (StandsOn line) f
line_faulted line f = (
  λ is. subst (OnLine line) is (line_judged line),
  λ x. by x (line_of line) refl (line_judged line),
)
  where
    by : IsFirst (StandsOn line) f → (r : Result Statement Fault) → line_of line ≡ r → OnLine line r
        → line_of line ≡ Err f
    by x (Ok t) is v = absurd (v.1 f x.0)
    by x (Err g) is v =
        is
        ∙ ap (λ (h : Fault). Err h)
        (one_first g f (order_in_line g) (order_in_line f) (v.1 f x.0) (x.1 g v.0))

-- ---- texts

pub text_says : (text : List ℕ) (ss : List Statement)
    → (statements_of text ≡ Ok ss) ↔ (LinesSay (lines text) ss × ((g : CellFault) → StandsInText text g → ⊥))
text_says text ss = (to, λ x. by x (statements_of text) refl (text_judged text))
  where
    to : statements_of text ≡ Ok ss
        → LinesSay (lines text) ss × ((g : CellFault) → StandsInText text g → ⊥)
    to is = let v = subst (OfText text) is (text_judged text) in (v.0, v.1)

    by : LinesSay (lines text) ss × ((g : CellFault) → StandsInText text g → ⊥)
        → (r : Result (List Statement) CellFault) → statements_of text ≡ r → OfText text r
        → statements_of text ≡ Ok ss
    by x (Ok ts) is v = is ∙ ap (λ (us : List Statement). Ok us) (sym (v.2 ss x.0))
    by x (Err g) is v = absurd (x.1 g v.0)

pub text_faulted : (text : List ℕ) (g : CellFault) → (statements_of text ≡ Err g) ↔ IsFaultOf text g
text_faulted text g = (
  λ is. subst (OfText text) is (text_judged text),
  λ x. by x (statements_of text) refl (text_judged text),
)
  where
    by : IsFaultOf text g → (r : Result (List Statement) CellFault) → statements_of text ≡ r → OfText text r
        → statements_of text ≡ Err g
    by x (Ok ts) is v = absurd (v.1 g x.0)
    by x (Err h) is v =
        is ∙ ap (λ (i : CellFault). Err i) (one_first h g (order h) (order g) (v.1 g x.0) (x.1 h v.0))
