-- What the layout round knows represents the lines before, and its steps are those of the definition.
use Rattle.std.proofs.Common.{◌≡◌, ℕ, ◌+◌, ◌<◌, ◌≤◌, List, [], ◌∷◌, ◌++◌, Bool, true, false, cond, ◌||◌}
use Rattle.std.proofs.Common.{Option, Some, None, Result, Ok, Err, length, get_or, drop}
use Rattle.std.proofs.Common.{refl, sym, ap, ◌∙◌, arith}
use Rattle.std.proofs.lemmas.List.{drop_all}
use Rattle.std.proofs.lemmas.Slice.Eq.{bytes_eq-Decides}
use Rattle.std.specs.List.{list_any}
use Rattle.std.specs.Str.{bytes_eq}
use Rattle.asm_syntax.specs.declared.fault.AsmFault.{AsmFault}
use Rattle.asm_syntax.specs.declared.fault.AsmFault.TheVariants as asm
use Rattle.asm_syntax.specs.declared.statement.Label.{Label}
use Rattle.asm_syntax.specs.declared.statement.Statement.{Statement}
use Rattle.asm_syntax.specs.Outcome.{Fault, CellFault, Fails, at_line}
use Rattle.asm_encode.proofs.BytesLemmas.{next}
use Rattle.asm_build.specs.declared.symbols.SymbolKind.{SymbolKind}
use Rattle.asm_build.specs.declared.symbols.Symbol.{Symbol}
use Rattle.asm_build.specs.declared.laid.Laid.{Laid}
use Rattle.asm_build.specs.declared.layout.Layout.{Layout}
use Rattle.asm_build.specs.Statements.{on_action, is_end, definition_of}
use Rattle.asm_build.specs.Reading.{Entries, Lines, symbol_at, or_else, given_by, given_as, defined_on}
use Rattle.asm_build.specs.Reading.{last_definition, parts_past, place_after, has_ended, is_selected}
use Rattle.asm_build.specs.Layout.{Past, past, is_among, needs, uses, laid_out, laid_after, layout}
use Rattle.asm_build.specs.Meaning.{with_symbol, with_definition, definitions}
use Rattle.asm_build.specs.State.{lines_of, past_of, with_line_definition, LaysOutNext, IsLayoutAfter}

-- ---- look-ups in the cell's own symbols

true_not_false : (b : Bool) → b ≡ true → b ≡ false → ⊥
true_not_false b h k = cc

twice : (b : Bool) (d c o : Option Symbol) → cond b d o ≡ cond b d (cond b c o)
twice true d c o = refl
twice false d c o = refl

other_name : (b : Bool) (x y : List ℕ) (d o : Option Symbol) → bytes_eq x y ≡ b → bytes_eq y x ≡ false
    → o ≡ cond b d o
other_name true x y d o e ne =
    absurd (true_not_false (bytes_eq y x) ((bytes_eq-Decides y x).1 (sym ((bytes_eq-Decides x y).0 e))) ne)
other_name false x y d o e ne = refl

set_by : (b c : Bool) (x y k : List ℕ) (d w : Symbol) (es fs : Entries) → bytes_eq y k ≡ b → bytes_eq x k ≡ c
    → symbol_at fs x ≡ cond (bytes_eq x y) (Some d) (symbol_at es x)
    → symbol_at (cond b ((k, d) ∷ es) ((k, w) ∷ fs)) x
    ≡ cond (bytes_eq x y) (Some d) (symbol_at ((k, w) ∷ es) x)
set_by true c x y k d w es fs e f h =
    twice (bytes_eq x k) (Some d) (Some w) (symbol_at es x)
    ∙ ap (λ (n : List ℕ). cond (bytes_eq x n) (Some d) (symbol_at ((k, w) ∷ es) x))
    (sym ((bytes_eq-Decides y k).0 e))
set_by false true x y k d w es fs e f h =
    let same : x ≡ k = (bytes_eq-Decides x k).0 f in
    rw f (other_name (bytes_eq x y) x y (Some d) (Some w) refl (ap (bytes_eq y) same ∙ e))
set_by false false x y k d w es fs e f h = rw f h

pub set_at : (es : Entries) (x y : List ℕ) (d : Symbol)
    → symbol_at (with_symbol es y d) x ≡ cond (bytes_eq x y) (Some d) (symbol_at es x)
set_at [] x y d = refl
set_at (e ∷ es) x y d =
    set_by (bytes_eq y e.0) (bytes_eq x e.0) x y e.0 d e.1 es (with_symbol es y d) refl refl (set_at es x y d)

or_cond : (b : Bool) (d : Symbol) (o : Option Symbol) → cond b (Some d) o ≡ or_else (cond b (Some d) None) o
or_cond true d o = refl
or_cond false d o = refl

pub defined_at : (on : Bool) (d : Option (Label × SymbolKind)) (r : Laid) (es : Entries) (x : List ℕ)
    → symbol_at (cond on (with_definition d r es) es) x
    ≡ or_else (cond on (given_by d r x) None) (symbol_at es x)
defined_at false d r es x = refl
defined_at true None r es x = refl
defined_at true (Some d) r es x =
    set_at es x d.0.name (given_as d.1 r) ∙ or_cond (bytes_eq x d.0.name) (given_as d.1 r) (symbol_at es x)

pub definitions_at : (ps : Lines) (x : List ℕ) → symbol_at (definitions ps) x ≡ last_definition ps x
definitions_at [] x = refl
definitions_at (p ∷ ps) x =
    defined_at p.1.is_assembled (definition_of p.0) p.1 (definitions ps) x
    ∙ ap (or_else (defined_on p x)) (definitions_at ps x)

-- ---- what represents the lines before

pub stands_next : (earlier : Lines) (old new : Layout) (s : Statement) (r : Laid) → IsLayoutAfter earlier old
    → LaysOutNext old new s r → IsLayoutAfter ((s, r) ∷ earlier) new
stands_next earlier old new s r was goes = record {
  own = goes.own ∙ ap (λ es. with_line_definition es s r) was.own;
  needed = λ x. goes.needed x ∙ ap (λ b. needs (s, r) x || b) (was.needed x);
  used = λ x. goes.used x ∙ ap (λ b. uses (s, r) x || b) (was.used x);
  parts = goes.parts ∙ ap (λ ps. on_action (parts_past ps r.value) ps s) was.parts;
  place = goes.place;
  ended = goes.ended ∙ ap (λ b. on_action is_end false s || b) was.ended;
}

pub funext : {A B : Type 0} (f g : A → B) → ((x : A) → f x ≡ g x) → f ≡ g
funext f g h = λ i x. h x i

abbrev past_with : Entries → (List ℕ → Option Symbol) → (List ℕ → Bool) → (List ℕ → Bool) → Past
past_with kept defined needed used =
    record { kept = symbol_at kept; defined = defined; needed = needed; used = used }

same_past : (kept : Entries) (earlier : Lines) (l : Layout) → IsLayoutAfter earlier l
    → past_of kept l ≡ past kept earlier
same_past kept earlier l was =
    ap (λ f. past_with kept f (λ x. is_among x l.needed) (λ x. is_among x l.used))
    (funext (symbol_at l.own) (last_definition earlier)
    (λ x. ap (λ es. symbol_at es x) was.own ∙ definitions_at earlier x))
    ∙ ap (λ f. past_with kept (last_definition earlier) f (λ x. is_among x l.used))
    (funext (λ x. is_among x l.needed) (λ x. list_any (λ p. needs p x) earlier) was.needed)
    ∙ ap (λ f. past_with kept (last_definition earlier) (λ x. list_any (λ p. needs p x) earlier) f)
    (funext (λ x. is_among x l.used) (λ x. list_any (λ p. uses p x) earlier) was.used)

abbrev laid_in : Entries → Layout → Statement → Result Laid Fault
laid_in kept l s = laid_out (past_of kept l) l.place (is_selected l.has_ended l.parts s) s

same_laid : (kept : Entries) (earlier : Lines) (l : Layout) (s : Statement) → IsLayoutAfter earlier l
    → laid_in kept l s ≡ laid_after kept earlier s
same_laid kept earlier l s was =
    ap (λ before. laid_out before l.place (is_selected l.has_ended l.parts s) s)
    (same_past kept earlier l was)
    ∙ ap (λ n. laid_out (past kept earlier) n (is_selected l.has_ended l.parts s) s) was.place
    ∙ ap (λ b. laid_out (past kept earlier) (place_after earlier) (is_selected b l.parts s) s) was.ended
    ∙ ap (λ ps. laid_out (past kept earlier) (place_after earlier) (is_selected (has_ended earlier) ps s) s)
    was.parts

-- ---- lines

pub lines_none : (earlier : Lines) (ss : List Statement) → lines_of earlier ss [] ≡ earlier
lines_none earlier [] = refl
lines_none earlier (s ∷ ss) = refl

pub lines_more : (earlier : Lines) (ss : List Statement) (rs : List Laid) (s : Statement) (r : Laid) (n : ℕ)
    → n ≡ length rs → n < length ss → s ≡ get_or ss n s
    → lines_of earlier ss (rs ++ r ∷ []) ≡ (s, r) ∷ lines_of earlier ss rs
lines_more earlier [] rs s r n e lt is = absurd (omega (arith, lt))
lines_more earlier (t ∷ ss) [] s r n e lt is =
    lines_none ((t, r) ∷ earlier) ss
    ∙ ap (λ (u : Statement). (u, r) ∷ earlier) (sym (is ∙ ap (λ k. get_or (t ∷ ss) k s) e))
lines_more earlier (t ∷ ss) (q ∷ rs) s r n e lt is =
    lines_more ((t, q) ∷ earlier) ss rs s r (length rs) refl (omega (arith, e, lt))
    (is ∙ ap (λ k. get_or (t ∷ ss) k s) e)

pub lines_length : (earlier : Lines) (ss : List Statement) (rs : List Laid) → length rs ≤ length ss
    → length (lines_of earlier ss rs) ≡ length rs + length earlier
lines_length earlier [] [] le = omega arith
lines_length earlier [] (r ∷ rs) le = absurd (omega (arith, le))
lines_length earlier (s ∷ ss) [] le = omega arith
lines_length earlier (s ∷ ss) (r ∷ rs) le =
    let more : length (lines_of ((s, r) ∷ earlier) ss rs) ≡ length rs + length ((s, r) ∷ earlier) =
    lines_length ((s, r) ∷ earlier) ss rs (omega (arith, le)) in
    omega (arith, more)

-- ---- steps

step : (kept : Entries) (earlier : Lines) (l : Layout) (i : ℕ) (s : Statement) (o : Result Laid CellFault)
    → IsLayoutAfter earlier l → length earlier ≡ i
    → at_line (i + 1) (laid_in kept l s) ≡ o → at_line (length earlier + 1) (laid_after kept earlier s) ≡ o
step kept earlier l i s o was n e =
    ap (λ k. at_line (k + 1) (laid_after kept earlier s)) n
    ∙ ap (at_line (i + 1)) (sym (same_laid kept earlier l s was)) ∙ e

pub layout_goes : (kept : Entries) (earlier : Lines) (ss : List Statement) (l : Layout) (i : ℕ)
    (s : Statement) (r : Laid) (total : Result Lines CellFault)
    → i < length ss → s ≡ get_or ss i s → IsLayoutAfter earlier l → length earlier ≡ i
    → at_line (i + 1) (laid_in kept l s) ≡ Ok r
    → layout kept earlier (drop i ss) ≡ total → layout kept ((s, r) ∷ earlier) (drop (i + 1) ss) ≡ total
unfolding layout
layout_goes kept earlier ss l i s r total lt is was n e h =
    let one : layout kept earlier (drop i ss) ≡ layout kept ((s, r) ∷ earlier) (drop (i + 1) ss) =
    rw (next ss i s lt is, step kept earlier l i s (Ok r) was n e) refl in
    sym one ∙ h

pub layout_fails : (f : AsmFault) (kept : Entries) (earlier : Lines) (ss : List Statement) (l : Layout)
    (i : ℕ) (s : Statement) (total : Result Lines CellFault)
    → i < length ss → s ≡ get_or ss i s → IsLayoutAfter earlier l → length earlier ≡ i
    → Fails f (at_line (i + 1) (laid_in kept l s))
    → layout kept earlier (drop i ss) ≡ total → Fails f total
unfolding layout
layout_fails asm.OutOfMemory kept earlier ss l i s total lt is was n e h = tt
layout_fails (asm.At line column kind) kept earlier ss l i s total lt is was n e h =
    let one : layout kept earlier (drop i ss) ≡ Err (line, column, kind) =
    rw (next ss i s lt is, step kept earlier l i s (Err (line, column, kind)) was n e) refl in
    sym h ∙ one

pub layout_ends : (kept : Entries) (earlier : Lines) (ss : List Statement) (i : ℕ)
    (total : Result Lines CellFault)
    → length ss ≤ i → layout kept earlier (drop i ss) ≡ total → total ≡ Ok earlier
unfolding layout
layout_ends kept earlier ss i total le h =
    let one : layout kept earlier (drop i ss) ≡ Ok earlier = rw (drop_all i ss le) refl in
    sym h ∙ one
