-- An expression in brackets is the read at its value.
use Rattle.std.proofs.Common.{◌≡◌, ℕ, ◌+◌, List, [], ◌∷◌, ◌++◌, Bool, true, false, Option, Some}
use Rattle.std.proofs.Common.{Ok, refl, sym, ap, ◌∙◌, append_assoc, append-nil}
use Rattle.std.specs.Prelude.{replicate}
use Rattle.asm_expr.specs.Tree as tree
use Rattle.asm_syntax.specs.declared.statement.Operand.{Operand}
use Rattle.asm_syntax.specs.Lexemes.{Name, Sign, Piece}
use Rattle.asm_lex.specs.Operators.{is_sign, plain, symbols}
use Rattle.asm_lex.specs.Climb.{expression}
use Rattle.asm_laws.proofs.Meaning.{expression_is}
use Rattle.asm_text.specs.Lines.{placed_well}
use Rattle.lab_core.specs.Board.{Board}
use Rattle.dap_expr.specs.declared.brackets.Open.{Open}
use Rattle.dap_expr.specs.declared.brackets.Read.{Read}
use Rattle.dap_expr.specs.declared.brackets.Width.{Width}
use Rattle.dap_expr.specs.declared.brackets.Width.TheVariants as width
use Rattle.dap_expr.specs.declared.term.Term.{Term}
use Rattle.dap_expr.specs.Words.{close_bracket}
use Rattle.dap_expr.specs.Brackets.{width_of, last_open_from, last_open, bracket_for}
use Rattle.dap_expr.specs.Brackets.{flat_from, taken_out, bracket_of, in_brackets}
use Rattle.dap_expr.specs.Terms.{column_of, term_in}
use Rattle.dap_expr.specs.Values.{read_at, tree_value, values_from, term_value, TermHasValue}
use Rattle.dap_expr.proofs.BracketLemmas.{closed_ok}
use Rattle.dap_expr.proofs.PlainLemmas.{shape, goes_on, not_closing, not_reading}
use Rattle.dap_expr.proofs.PlainLemmas.{expression_moved, has_shape}

bracket_width : (w : Width) → width_of (bracket_of w) ≡ Some w
bracket_width width.Byte = refl
bracket_width width.Word = refl

bracket_opens : (w : Width) → is_sign close_bracket (bracket_of w) ≡ false
bracket_opens width.Byte = refl
bracket_opens width.Word = refl

last_kept : (at : Bool) (ps : List Piece) (k : ℕ) (found : Option Open) → shape (Some at) (symbols ps) ≡ true
    → last_open_from k found ps ≡ found
unfolding last_open_from
last_kept at [] k found h = refl
last_kept at (p ∷ ps) k found h =
    let on = goes_on at (plain p.1) (symbols ps) h in
    rw (not_reading at p.1 (on.0, on.1)) (last_kept on.0 ps (k + 1) found on.2)

last_is : (c : ℕ) (w : Width) (ps : List Piece) → shape (Some false) (symbols ps) ≡ true
    → last_open ((c, bracket_of w) ∷ ps) ≡ Some (record { index = 0; column = c; width = w })
unfolding last_open_from
last_is c w ps h = rw (bracket_width w) (last_kept false ps 1 _ h)

flat_to : (at : Bool) (ps more before : List Piece) (rs : List Read) → shape (Some at) (symbols ps) ≡ true
    → flat_from (before, rs) (ps ++ more) ≡ flat_from (before ++ ps, rs) more
unfolding flat_from
flat_to at [] more before rs h = ap (λ (all : List Piece). flat_from (all, rs) more) (sym (append-nil before))
flat_to at (p ∷ ps) more before rs h =
    let on = goes_on at (plain p.1) (symbols ps) h in
    rw (not_closing at p.1 (on.0, on.1))
    (flat_to on.0 ps more (before ++ p ∷ []) rs on.2
    ∙ ap (λ (all : List Piece). flat_from (all, rs) more) (append_assoc before (p ∷ []) ps))

taken_is : (c d : ℕ) (w : Width) (ps : List Piece) (o : Operand) → expression 1 ps ≡ Ok o
    → taken_out (in_brackets c w ps d)
    ≡ Ok ((c, Name (0 ∷ [])) ∷ [], record { width = w; address = o.expr } ∷ [])
unfolding flat_from
taken_is c d w ps o h =
    let shape-is = has_shape 1 ps o h in
    let bracket : Open = record { index = 0; column = c; width = w } in
    let there : bracket_for d ((c, bracket_of w) ∷ ps) ≡ Ok bracket = rw (last_is c w ps shape-is) refl in
    let done = closed_ok d ((c, bracket_of w) ∷ ps, []) bracket (Name (0 ∷ [])) o there refl
    (expression_moved 1 c ps o h) in
    let pushed = flat_to false ps ((d, Sign close_bracket) ∷ []) ((c, bracket_of w) ∷ []) [] shape-is in
    rw (bracket_opens w, pushed, done)
    refl

name_read : (column c : ℕ) → expression column ((c, Name (0 ∷ [])) ∷ [])
    ≡ Ok (record { column = c; expr = tree.Named (0 ∷ []) })
name_read column c = expression_is column ((c, Name (0 ∷ [])) ∷ []) (tree.Named (0 ∷ [])) (refl, tt)

-- a read of this width at a tree's value, alone
abbrev read_alone : Width → tree.Tree → Term
read_alone w t = record { reads = record { width = w; address = t } ∷ []; tree = tree.Named (0 ∷ []) }

term_is : (c d : ℕ) (w : Width) (ps : List Piece) (o : Operand) → expression 1 ps ≡ Ok o
    → placed_well (in_brackets c w ps d) ≡ Ok (in_brackets c w ps d)
    → term_in (in_brackets c w ps d) ≡ Ok (read_alone w o.expr)
unfolding term_in
term_is c d w ps o h well =
    let named : List Piece = (c, Name (0 ∷ [])) ∷ [] in
    rw (well, taken_is c d w ps o h, name_read (column_of named) c) refl

value_is : (b : Board) (w : Width) (t : tree.Tree) (a : ℕ) → tree_value b (replicate 16 0) t ≡ Ok a
    → term_value b (read_alone w t) ≡ Ok (read_at b.machine w a)
unfolding values_from
value_is b w t a h = rw h refl

pub read_is_at_value : (b : Board) (c d : ℕ) (w : Width) (ps : List Piece) (o : Operand) (a : ℕ)
    → expression 1 ps ≡ Ok o → tree_value b (replicate 16 0) o.expr ≡ Ok a
    → placed_well (in_brackets c w ps d) ≡ Ok (in_brackets c w ps d)
    → TermHasValue b (in_brackets c w ps d) (read_at b.machine w a)
read_is_at_value b c d w ps o a read h well =
    (read_alone w o.expr, term_is c d w ps o read well, value_is b w o.expr a h)
