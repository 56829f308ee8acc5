-- What the rounds give is the cell's one consistent reading.
use Rattle.std.proofs.Common.{◌≡◌, ℕ, ◌%◌, List, [], ◌∷◌, Bool, true, false, Option, Some, None, Result, Ok}
use Rattle.std.proofs.Common.{Err, refl, sym, ap, subst, ◌∙◌}
use Rattle.std.specs.Prelude.{IfOk}
use Rattle.asm_expr.specs.Value.{value_of}
use Rattle.asm_expr.specs.declared.evaluation.ExprFault.{ExprFault}
use Rattle.asm_expr.specs.declared.evaluation.ExprFault.TheVariants as expr
use Rattle.asm_syntax.specs.declared.fault.AsmFault.{AsmFault}
use Rattle.asm_syntax.specs.declared.statement.Operand.{Operand}
use Rattle.asm_syntax.specs.declared.statement.Statement.{Statement}
use Rattle.asm_syntax.specs.declared.fault.FaultKind.TheVariants as fault
use Rattle.asm_syntax.specs.Outcome.{Fault, ◌>>=◌, at_line, Gives}
use Rattle.asm_encode.specs.Values.{or_fault}
use Rattle.asm_build.specs.declared.laid.Laid.{Laid}
use Rattle.asm_build.specs.declared.built.Built.{Built}
use Rattle.asm_build.specs.Statements.{on_action, definition_of, early_in}
use Rattle.asm_build.specs.Reading.{Entries, Lines, early_value, place_after, parts_after, has_ended}
use Rattle.asm_build.specs.Reading.{is_selected, EarlyIs, ValueIs, Fits, LaysOut, IsReading}
use Rattle.asm_build.specs.Layout.{past, check_definition, early, within, lay_statement, laid_out}
use Rattle.asm_build.specs.Layout.{laid_after, layout}
use Rattle.asm_build.specs.Meaning.{Meaning, meaning_of, built_of, meaning_in, IsMeaning, IsOnlyMeaning}

bind_ok : {A B F : Type 0} (r : Result A F) (f : A → Result B F) (y : B) → (r >>= f) ≡ Ok y
    → (x : A) × (r ≡ Ok x) × (f x ≡ Ok y)
bind_ok (Ok x) f y e = (x, refl, e)
bind_ok (Err d) f y e = absurd cc

line_ok : {A : Type 0} (n : ℕ) (r : Result A Fault) (x : A) → at_line n r ≡ Ok x → r ≡ Ok x
line_ok n (Ok y) x e = let same : y ≡ x = cc in ap (λ z. Ok z) same
line_ok n (Err f) x e = absurd cc

abbrev pub done : {A : Type 0} → A → Result A Fault
done x = Ok x

-- ---- what the layout gives is a consistent reading

early_ok : (column v : ℕ) (r : Result ℕ ExprFault) → or_fault fault.Early column r ≡ Ok v → r ≡ Ok v
early_ok column v (Ok w) e = let same : w ≡ v = cc in ap (λ z. Ok z) same
early_ok column v (Err expr.Undefined) e = absurd cc
early_ok column v (Err expr.Divisor) e = absurd cc

abbrev pub row : ℕ → Bool → ℕ → Laid
row p b v = record { place = p; is_assembled = b; value = v }

pub early_is : (kept : Entries) (earlier : Lines) (p v : ℕ) (b : Bool) (o : Option Operand)
    → early (past kept earlier) (p % 65536) o ≡ Ok v → EarlyIs kept earlier (row p b v) o
early_is kept earlier p v b None e = let same : 0 ≡ v = cc in sym same
early_is kept earlier p v b (Some o) e =
    early_ok o.column v (value_of (early_value kept earlier) (p % 65536) o.expr) e

abbrev Stood : Entries → Lines → Statement → ℕ → Laid → Type 0
Stood kept earlier s p r =
    (r.place ≡ p) × (r.is_assembled ≡ true) × EarlyIs kept earlier r (on_action early_in None s)

stood : (kept : Entries) (earlier : Lines) (s : Statement) (p : ℕ) (r : Laid)
    → lay_statement (past kept earlier) p s ≡ Ok r → Stood kept earlier s p r
stood kept earlier s p r e =
    let before = past kept earlier in
    let o = on_action early_in None s in
    let a =
    bind_ok (check_definition before o (definition_of s))
    (λ u. early before (p % 65536) o >>= λ v. within p v s.operation >>= λ w. done (row p true v)) r e in
    let b =
    bind_ok (early before (p % 65536) o) (λ v. within p v s.operation >>= λ w. done (row p true v)) r a.2
    in
    let d = bind_ok (within p b.0 s.operation) (λ w. done (row p true b.0)) r b.2 in
    let same : row p true b.0 ≡ r = cc in
    subst (Stood kept earlier s p) same (refl, refl, early_is kept earlier p b.0 true o b.1)

fits_by : (b : Bool) (kept : Entries) (earlier : Lines) (s : Statement) (r : Laid)
    → is_selected (has_ended earlier) (parts_after earlier) s ≡ b
    → laid_out (past kept earlier) (place_after earlier) b s ≡ Ok r → Fits kept earlier s r
fits_by true kept earlier s r on e =
    let h = stood kept earlier s (place_after earlier) r e in
    record {
      place = h.0;
      assembled = h.1 ∙ sym on;
      value = subst (ValueIs kept earlier r (on_action early_in None s)) (sym h.1) h.2;
    }
fits_by false kept earlier s r on e =
    let same : row (place_after earlier) false 0 ≡ r = cc in
    subst (Fits kept earlier s) same (record { place = refl; assembled = sym on; value = refl })

fits : (kept : Entries) (earlier : Lines) (s : Statement) (r : Laid) → laid_after kept earlier s ≡ Ok r
    → Fits kept earlier s r
fits kept earlier s r e =
    fits_by (is_selected (has_ended earlier) (parts_after earlier) s) kept earlier s r refl e

layout_reads : (ss : List Statement) (kept : Entries) (earlier all : Lines) → layout kept earlier ss ≡ Ok all
    → LaysOut kept earlier ss all
unfolding layout
layout_reads [] kept earlier all e = let same : earlier ≡ all = cc in sym same
layout_reads (s ∷ ss) kept earlier all e =
    let a =
    bind_ok (at_line _ (laid_after kept earlier s)) (λ r. layout kept ((s, r) ∷ earlier) ss) all e in (
      a.0,
      fits kept earlier s a.0 (line_ok _ (laid_after kept earlier s) a.0 a.1),
      layout_reads ss kept
          ((s, a.0) ∷ earlier) all a.2,
    )

pub found : (kept : Entries) (ss : List Statement) (m : Meaning) → built_of kept ss ≡ Ok m
    → IsMeaning kept ss m
found kept ss m e =
    let a = bind_ok (layout kept [] ss) (λ all. meaning_of kept all) m e in
    (a.0, layout_reads ss kept [] a.0 a.1, a.2)

-- ---- there is one consistent reading

ok_is : (x y : ℕ) (r : Result ℕ ExprFault) → r ≡ Ok x → r ≡ Ok y → x ≡ y
ok_is x y r h k = cc

one_early : (kept : Entries) (earlier : Lines) (p v w : ℕ) (b : Bool) (o : Option Operand)
    → EarlyIs kept earlier (row p b v) o → EarlyIs kept earlier (row p b w) o → v ≡ w
one_early kept earlier p v w b None h k = h ∙ sym k
one_early kept earlier p v w b (Some o) h k =
    ok_is v w (value_of (early_value kept earlier) (p % 65536) o.expr) h k

one_value : (kept : Entries) (earlier : Lines) (p v w : ℕ) (b : Bool) (o : Option Operand)
    → ValueIs kept earlier (row p b v) o b → ValueIs kept earlier (row p b w) o b → v ≡ w
one_value kept earlier p v w true o h k = one_early kept earlier p v w true o h k
one_value kept earlier p v w false o h k = h ∙ sym k

pub one_row : (kept : Entries) (earlier : Lines) (s : Statement) (q r : Laid) → Fits kept earlier s q
    → Fits kept earlier s r → q ≡ r
one_row kept earlier s q r a b =
    let o = on_action early_in None s in
    let p : r.place ≡ q.place = b.place ∙ sym a.place in
    let on : r.is_assembled ≡ q.is_assembled = b.assembled ∙ sym a.assembled in
    let moved =
    subst (λ (x : ℕ). ValueIs kept earlier (row x r.is_assembled r.value) o r.is_assembled) p b.value in
    let moved_on = subst (λ (x : Bool). ValueIs kept earlier (row q.place x r.value) o x) on moved in
    let v : q.value ≡ r.value =
    one_value kept earlier q.place q.value r.value q.is_assembled o a.value moved_on in
    ap (λ (x : ℕ). row x q.is_assembled q.value) (sym p) ∙ ap (λ (x : Bool). row r.place x q.value) (sym on)
    ∙ ap (λ (x : ℕ). row r.place r.is_assembled x) v

pub one_reading : (ss : List Statement) (kept : Entries) (earlier l m : Lines) → LaysOut kept earlier ss l
    → LaysOut kept earlier ss m → l ≡ m
one_reading [] kept earlier l m a b = a ∙ sym b
one_reading (s ∷ ss) kept earlier l m a b =
    let same : a.0 ≡ b.0 = one_row kept earlier s a.0 b.0 a.1 b.1 in
    one_reading ss kept ((s, b.0) ∷ earlier) l m
    (subst (λ (r : Laid). LaysOut kept ((s, r) ∷ earlier) ss l) same a.2) b.2

pub same_reading : (kept : Entries) (ss : List Statement) (lines lines' : Lines) → IsReading kept ss lines
    → IsReading kept ss lines' → lines ≡ lines'
same_reading kept ss lines lines' = one_reading ss kept [] lines lines'

-- so what one gives, each gives
pub each_gives : (kept : Entries) (ss : List Statement) (m : Meaning) → IsMeaning kept ss m
    → IsOnlyMeaning kept ss m
each_gives kept ss m one all h = ap (meaning_of kept) (same_reading kept ss all one.0 h one.1) ∙ one.2

pub only : (kept : Entries) (ss : List Statement) (m : Meaning) → built_of kept ss ≡ Ok m
    → IsOnlyMeaning kept ss m
only kept ss m e = each_gives kept ss m (found kept ss m e)

-- ---- of what a function answers

pub found_in : (kept : Entries) (ss : List Statement) (r : Result Built AsmFault)
    → Gives meaning_in r (built_of kept ss) → IfOk r (λ b. IsMeaning kept ss (meaning_in b))
found_in kept ss (Ok b) e = found kept ss (meaning_in b) e
found_in kept ss (Err f) e = tt

pub only_in : (kept : Entries) (ss : List Statement) (r : Result Built AsmFault)
    → Gives meaning_in r (built_of kept ss) → IfOk r (λ b. IsOnlyMeaning kept ss (meaning_in b))
only_in kept ss (Ok b) e = only kept ss (meaning_in b) e
only_in kept ss (Err f) e = tt
