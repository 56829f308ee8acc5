-- The steps of the value round are those of the definition.
use Rattle.std.proofs.Common.{◌≡◌, ℕ, zero, suc, ◌+◌, ◌<◌, List, [], ◌∷◌, ◌++◌, Bool, true, false, not, cond}
use Rattle.std.proofs.Common.{Option, Some, None, Result, Ok, Err, length, get_or, take, add-one, refl, sym}
use Rattle.std.proofs.Common.{ap, ◌∙◌, arith}
use Rattle.std.proofs.Math.Seq.{take-suc}
use Rattle.std.proofs.lemmas.List.{length-take-le}
use Rattle.std.specs.Str.{bytes_eq}
use Rattle.asm_syntax.specs.declared.fault.AsmFault.{AsmFault}
use Rattle.asm_syntax.specs.declared.fault.AsmFault.TheVariants as asm
use Rattle.asm_syntax.specs.declared.statement.Label.{Label}
use Rattle.asm_syntax.specs.declared.statement.Statement.{Statement}
use Rattle.asm_syntax.specs.Outcome.{CellFault, Fails, at_line}
use Rattle.asm_build.specs.declared.symbols.SymbolKind.{SymbolKind}
use Rattle.asm_build.specs.declared.symbols.SymbolKind.TheVariants as kind
use Rattle.asm_build.specs.declared.symbols.Symbol.{Symbol}
use Rattle.asm_build.specs.declared.laid.Laid.{Laid}
use Rattle.asm_build.specs.Statements.{definition_of, is_set}
use Rattle.asm_build.specs.Reading.{Entries, Lines, symbol_at, or_else, only_set, value_in, given_as}
use Rattle.asm_build.specs.Reading.{given_by, defined_on, last_definition, last_set, late_symbol, late_value}
use Rattle.asm_build.specs.Meaning.{Output, with_symbol, definitions, with_line, output_of}
use Rattle.asm_build.specs.State.{lines_of, late_in}
use Rattle.asm_build.proofs.LayoutLemmas.{set_at, definitions_at, lines_more, lines_length, funext}

-- ---- SETs so far

set_given : (b : Bool) (r : Laid) (o : Option Symbol)
    → cond b (Some (given_as kind.Set r)) o ≡ or_else (only_set (cond b (Some (given_as kind.Set r)) None)) o
set_given true r o = refl
set_given false r o = refl

pub not_false : (b : Bool) → not b ≡ false → b ≡ true
not_false true h = refl
not_false false h = absurd cc

-- what a SET that is assembled adds
pub set_noted : (k : SymbolKind) (s : Statement) (r : Laid) (l : Label) (sets : Entries) (x : List ℕ)
    → is_set k ≡ true → r.is_assembled ≡ true → Some (l, k) ≡ definition_of s
    → symbol_at (with_symbol sets l.name (given_as k r)) x
    ≡ or_else (only_set (defined_on (s, r) x)) (symbol_at sets x)
set_noted kind.Label s r l sets x is on d = absurd cc
set_noted kind.Equ s r l sets x is on d = absurd cc
set_noted kind.Set s r l sets x is on d =
    set_at sets x l.name (given_as kind.Set r)
    ∙ set_given (bytes_eq x l.name) r (symbol_at sets x)
    ∙ ap (λ e. or_else (only_set (given_by e r x)) (symbol_at sets x)) d
    ∙ ap (λ b. or_else (only_set (cond b (given_by (definition_of s) r x) None)) (symbol_at sets x)) (sym on)

-- ---- names

late_same : (own sets kept : Entries) (all earlier : Lines) → own ≡ definitions all
    → ((x : List ℕ) → symbol_at sets x ≡ last_set earlier x) → (x : List ℕ)
    → late_in own sets kept x ≡ late_value kept all earlier x
late_same own sets kept all earlier o was x =
    ap (λ d. value_in (late_symbol d (symbol_at sets x) (symbol_at kept x)))
    (ap (λ es. symbol_at es x) o ∙ definitions_at all x)
    ∙ ap (λ d. value_in (late_symbol (last_definition all x) d (symbol_at kept x))) (was x)

-- ---- lines

pub lines_take : (ss : List Statement) (rs : List Laid) (i : ℕ) (s : Statement) (r : Laid)
    → length rs ≡ length ss → i < length ss → s ≡ get_or ss i s → r ≡ get_or rs i r
    → lines_of [] ss (take (i + 1) rs) ≡ (s, r) ∷ lines_of [] ss (take i rs)
lines_take ss rs i s r n lt is here =
    ap (λ k. lines_of [] ss (take k rs)) (add-one i)
    ∙ ap (lines_of [] ss) (take-suc rs i r (omega (arith, n, lt)))
    ∙ ap (λ (q : Laid). lines_of [] ss (take i rs ++ q ∷ [])) (sym here)
    ∙ lines_more [] ss (take i rs) s r i (sym (length-take-le i rs (omega (arith, n, lt)))) lt is

pub lines_taken : (ss : List Statement) (rs : List Laid) (i : ℕ) → length rs ≡ length ss → i < length ss
    → length (lines_of [] ss (take i rs)) ≡ i
lines_taken ss rs i n lt =
    let few : length (take i rs) ≡ i = length-take-le i rs (omega (arith, n, lt)) in
    omega (arith, lines_length [] ss (take i rs) (omega (arith, few, lt)), few)

-- ---- steps

abbrev line_in : (List ℕ → Option ℕ) → Output → ℕ → Statement × Laid → Result Output CellFault
line_in names out n p = at_line n (with_line names out n p)

step : (kept own sets : Entries) (all earlier : Lines) (out : Output) (i : ℕ) (p : Statement × Laid)
    (o : Result Output CellFault)
    → own ≡ definitions all → ((x : List ℕ) → symbol_at sets x ≡ last_set earlier x) → length earlier ≡ i
    → output_of kept all earlier ≡ Ok out → line_in (late_in own sets kept) out (i + 1) p ≡ o
    → output_of kept all (p ∷ earlier) ≡ o
unfolding output_of
step kept own sets all earlier out i p o d was n before e =
    let names : late_value kept all earlier ≡ late_in own sets kept =
    sym (funext (late_in own sets kept) (late_value kept all earlier)
    (late_same own sets kept all earlier d was)) in
    rw (before, n) (ap (λ f. line_in f out (i + 1) p) names ∙ e)

pub output_goes : (kept own sets : Entries) (all earlier : Lines) (out new : Output) (i : ℕ)
    (p : Statement × Laid)
    → own ≡ definitions all → ((x : List ℕ) → symbol_at sets x ≡ last_set earlier x) → length earlier ≡ i
    → output_of kept all earlier ≡ Ok out → line_in (late_in own sets kept) out (i + 1) p ≡ Ok new
    → output_of kept all (p ∷ earlier) ≡ Ok new
output_goes kept own sets all earlier out new i p d was n before e =
    step kept own sets all earlier out i p (Ok new) d was n before e

stays : (kept : Entries) (all : Lines) (ss : List Statement) (rs : List Laid) (earlier : Lines)
    (f : CellFault)
    → output_of kept all earlier ≡ Err f → output_of kept all (lines_of earlier ss rs) ≡ Err f
unfolding output_of
stays kept all [] rs earlier f h = h
stays kept all (s ∷ ss) [] earlier f h = h
stays kept all (s ∷ ss) (r ∷ rs) earlier f h =
    stays kept all ss rs ((s, r) ∷ earlier) f
    (let one : output_of kept all ((s, r) ∷ earlier) ≡ Err f = rw h refl in one)

pub output_none : (kept : Entries) (all : Lines) (ss : List Statement) (out : Output)
    → out ≡ record { image = []; rows = []; start = None } → output_of kept all (lines_of [] ss []) ≡ Ok out
unfolding output_of
output_none kept all [] out e = ap (λ (o : Output). Ok o) (sym e)
output_none kept all (s ∷ ss) out e = ap (λ (o : Output). Ok o) (sym e)

stays_taken : (kept : Entries) (all : Lines) (ss : List Statement) (rs : List Laid) (k : ℕ) (earlier : Lines)
    (f : CellFault)
    → output_of kept all (lines_of earlier ss (take k rs)) ≡ Err f
    → output_of kept all (lines_of earlier ss rs) ≡ Err f
stays_taken kept all [] rs k earlier f h = h
stays_taken kept all (s ∷ ss) rs zero earlier f h = stays kept all (s ∷ ss) rs earlier f h
stays_taken kept all (s ∷ ss) [] (suc k) earlier f h = h
stays_taken kept all (s ∷ ss) (r ∷ rs) (suc k) earlier f h =
    stays_taken kept all ss rs k ((s, r) ∷ earlier) f h

pub output_fails : (e : AsmFault) (kept own sets : Entries) (ss : List Statement) (rs : List Laid)
    (out : Output) (i : ℕ) (s : Statement) (r : Laid)
    → own ≡ definitions (lines_of [] ss rs) → length rs ≡ length ss → i < length ss → s ≡ get_or ss i s
    → r ≡ get_or rs i r
    → ((x : List ℕ) → symbol_at sets x ≡ last_set (lines_of [] ss (take i rs)) x)
    → output_of kept (lines_of [] ss rs) (lines_of [] ss (take i rs)) ≡ Ok out
    → Fails e (line_in (late_in own sets kept) out (i + 1) (s, r))
    → Fails e (output_of kept (lines_of [] ss rs) (lines_of [] ss rs))
output_fails asm.OutOfMemory kept own sets ss rs out i s r d n lt is here was before h = tt
output_fails (asm.At line column k) kept own sets ss rs out i s r d n lt is here was before h =
    let all = lines_of [] ss rs in
    stays_taken kept all ss rs (i + 1) [] (line, column, k)
    (ap (output_of kept all) (lines_take ss rs i s r n lt is here)
    ∙ step kept own sets all (lines_of [] ss (take i rs)) out i (s, r) (Err (line, column, k)) d was
    (lines_taken ss rs i n lt) before h)
