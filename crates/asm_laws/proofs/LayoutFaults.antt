-- What is known of a statement once it was laid out: how it stands, or which fault comes first.
use Rattle.std.proofs.Common.{◌≡◌, ℕ, ◌+◌, ◌%◌, ◌<◌, inl, inr, [], ◌∷◌, Bool, true, false}
use Rattle.std.proofs.Common.{refl, sym, ap, ◌∙◌, subst, arith, Option, Some, None, Result, Ok, Err}
use Rattle.std.specs.Prelude.{if◌then◌else◌, nat_lt}
use Rattle.std.proofs.lemmas.Bool.Decides.{nat_tests}
use Rattle.std.proofs.lemmas.Bool.{false≢true}
use Rattle.asm_expr.specs.Value.{value_of}
use Rattle.asm_expr.specs.declared.evaluation.ExprFault.{ExprFault}
use Rattle.asm_expr.specs.declared.evaluation.ExprFault.TheVariants as expr
use Rattle.asm_syntax.specs.declared.fault.FaultKind.{FaultKind}
use Rattle.asm_syntax.specs.declared.fault.FaultKind.TheVariants as fault
use Rattle.asm_syntax.specs.declared.statement.Operand.{Operand}
use Rattle.asm_syntax.specs.declared.statement.Action.{Action}
use Rattle.asm_syntax.specs.declared.statement.Operation.{Operation}
use Rattle.asm_syntax.specs.declared.statement.Statement.{Statement}
use Rattle.asm_syntax.specs.Outcome.{Fault, ComesBefore, ◌>>=◌}
use Rattle.asm_syntax.proofs.FirstFaults.{fault_is}
use Rattle.asm_encode.specs.Lengths.{length_of}
use Rattle.asm_encode.specs.Values.{or_fault}
use Rattle.asm_build.specs.declared.laid.Laid.{Laid}
use Rattle.asm_build.specs.Statements.{on_action, definition_of, early_in}
use Rattle.asm_build.specs.Reading.{Entries, Lines, early_value, place_after, parts_after, has_ended}
use Rattle.asm_build.specs.Reading.{is_selected, Fits}
use Rattle.asm_build.specs.Layout.{past, check_definition, early, within, lay_statement, laid_out}
use Rattle.asm_build.specs.Layout.{laid_after}
use Rattle.asm_build.specs.Refusals.{Part, TheDefinition, TheOperand, TheOperation, WrongEarly, IsPastEnd}
use Rattle.asm_build.specs.Refusals.{WrongInLayout, StandsAfter, rank}
use Rattle.asm_build.proofs.ReadingLemmas.{row, done, early_is, one_row}
use Rattle.asm_laws.proofs.DefinitionFaults.{some_is, none_some, ok_err, Follows}
use Rattle.asm_laws.proofs.DefinitionFaults.{DefinitionVerdict, definition_judged}

-- ---- the operand that the layout needs

abbrev here : Lines → ℕ
here earlier = place_after earlier % 65536

abbrev OperandVerdict : Entries → Lines → Statement → Result ℕ Fault → Type 0
OperandVerdict kept earlier s (Ok v) = (i : ℕ) (g : Fault) → WrongInLayout kept earlier s (TheOperand i) g → ⊥
OperandVerdict kept earlier s (Err f) =
    WrongInLayout kept earlier s (TheOperand 0) f
    × ((i : ℕ) (g : Fault) → WrongInLayout kept earlier s (TheOperand i) g → g ≡ f)

abbrev value_here : Entries → Lines → Operand → Result ℕ ExprFault
value_here kept earlier o = value_of (early_value kept earlier) (here earlier) o.expr

one_early : (r : Result ℕ ExprFault) (k l : FaultKind) → WrongEarly r k → WrongEarly r l → k ≡ l
one_early r fault.Early fault.Early a b = refl
one_early r fault.Divisor fault.Divisor a b = refl
one_early r fault.Early fault.Divisor a b = let e : Err expr.Undefined ≡ r = sym a in cc
one_early r fault.Divisor fault.Early a b = let e : Err expr.Divisor ≡ r = sym a in cc
one_early r fault.Early l a b = absurd b
one_early r fault.Divisor l a b = absurd b
one_early r k l a b = absurd a

wrong_operand : (kept : Entries) (earlier : Lines) (s : Statement) (o : Operand) (k : FaultKind)
    → on_action early_in None s ≡ Some o → WrongEarly (value_here kept earlier o) k
    → OperandVerdict kept earlier s (Err (o.column, k))
wrong_operand kept earlier s o k is w = ((o, is, refl, refl, w), same)
  where
    same : (i : ℕ) (g : Fault) → WrongInLayout kept earlier s (TheOperand i) g → g ≡ (o.column, k)
    same i g m =
        let it : m.0 ≡ o = some_is m.0 o (on_action early_in None s) m.1 is in
        fault_is (o.column, k) g (m.3 ∙ ap (λ (e : Operand). e.column) it)
        (one_early (value_here kept earlier o) g.1 k
        (subst (λ (e : Operand). WrongEarly (value_here kept earlier e) g.1) it m.4) w)

no_early : (v : ℕ) (r : Result ℕ ExprFault) → r ≡ Ok v → (k : FaultKind) → WrongEarly r k → ⊥
no_early v r e fault.Early w = ok_err v expr.Undefined r e w
no_early v r e fault.Divisor w = ok_err v expr.Divisor r e w
no_early v r e k w = w

value_judged : (kept : Entries) (earlier : Lines) (s : Statement) (o : Operand)
    → on_action early_in None s ≡ Some o → (r : Result ℕ ExprFault) → value_here kept earlier o ≡ r
    → OperandVerdict kept earlier s (or_fault fault.Early o.column r)
value_judged kept earlier s o is (Ok v) e = λ i g m.
    no_early v (value_here kept earlier o) e g.1
    (subst (λ (p : Operand). WrongEarly (value_here kept earlier p) g.1)
    (some_is m.0 o (on_action early_in None s) m.1 is) m.4)
value_judged kept earlier s o is (Err expr.Undefined) e = wrong_operand kept earlier s o fault.Early is e
value_judged kept earlier s o is (Err expr.Divisor) e = wrong_operand kept earlier s o fault.Divisor is e

operand_judged : (kept : Entries) (earlier : Lines) (s : Statement) (o : Option Operand)
    → on_action early_in None s ≡ o
    → OperandVerdict kept earlier s (early (past kept earlier) (here earlier) o)
operand_judged kept earlier s None is = λ i g m. none_some m.0 (on_action early_in None s) is m.1
operand_judged kept earlier s (Some o) is =
    value_judged kept earlier s o is (value_here kept earlier o) refl

-- ---- the operation

abbrev OperationVerdict : Entries → Lines → Statement → Result (Unit {0}) Fault → Type 0
OperationVerdict kept earlier s (Ok x) = (g : Fault) → WrongInLayout kept earlier s TheOperation g → ⊥
OperationVerdict kept earlier s (Err f) =
    WrongInLayout kept earlier s TheOperation f
    × ((g : Fault) → WrongInLayout kept earlier s TheOperation g → g ≡ f)

small : (r : Laid) (a : Action) → nat_lt 65536 (r.place + length_of a r.value) ≡ false
    → 65536 < r.place + length_of a r.value → ⊥
small r a h lt = by (r.place + length_of a r.value) h lt
  where
    by : (n : ℕ) → nat_lt 65536 n ≡ false → 65536 < n → ⊥
    by n e l = let f : nat_lt 65536 n ≡ true = grind (arith, nat_tests) in false≢true (sym e ∙ f)

large : (n : ℕ) → nat_lt 65536 n ≡ true → 65536 < n
large n e = grind (arith, nat_tests)

placed_judged : (kept : Entries) (earlier : Lines) (s : Statement) (r : Laid) (o : Operation)
    → Fits kept earlier s r → s.operation ≡ Some o → (b : Bool)
    → nat_lt 65536 (r.place + length_of o.action r.value) ≡ b
    → OperationVerdict kept earlier s (if b then Err (o.column, fault.PastEnd) else Ok tt)
placed_judged kept earlier s r o fit is true h =
    ((o, is, refl, (r, fit, large (r.place + length_of o.action r.value) h)), same)
  where
    same : (g : Fault) → WrongInLayout kept earlier s TheOperation g → g ≡ (o.column, fault.PastEnd)
    same g m =
        m.2 ∙ ap (λ (p : Operation). (p.column, fault.PastEnd)) (some_is m.0 o s.operation m.1 is)
placed_judged kept earlier s r o fit is false h = λ g m.
    let it : m.0 ≡ o = some_is m.0 o s.operation m.1 is in
    let past = subst (λ (p : Operation). IsPastEnd kept earlier s p.action) it m.3 in
    let one : past.0 ≡ r = one_row kept earlier s past.0 r past.1 fit in
    small r o.action h (subst (λ (q : Laid). 65536 < q.place + length_of o.action q.value) one past.2)

operation_judged : (kept : Entries) (earlier : Lines) (s : Statement) (r : Laid) (o : Option Operation)
    → Fits kept earlier s r → s.operation ≡ o
    → OperationVerdict kept earlier s (within r.place r.value o)
operation_judged kept earlier s r None fit is = λ g m. none_some m.0 s.operation is m.1
operation_judged kept earlier s r (Some o) fit is =
    placed_judged kept earlier s r o fit is (nat_lt 65536 (r.place + length_of o.action r.value)) refl

-- ---- the statement

abbrev pub StatementVerdict : Entries → Lines → Statement → Result Laid Fault → Type 0
StatementVerdict kept earlier s (Ok r) =
    Fits kept earlier s r × ((part : Part) (g : Fault) → StandsAfter kept earlier s part g → ⊥)
StatementVerdict kept earlier s (Err f) =
    (part : Part) × StandsAfter kept earlier s part f
    × ((other : Part) (g : Fault) → StandsAfter kept earlier s other g → Follows part f other g)

abbrev On : Entries → Lines → Statement → Type 0
On kept earlier s = is_selected (has_ended earlier) (parts_after earlier) s ≡ true

before_operands : (k : FaultKind) (i : ℕ) → ComesBefore (rank TheDefinition k) (1 ∷ i ∷ [])
before_operands fault.Twice i = inl (omega arith)
before_operands k i = inl (omega arith)

before_operation : (k : FaultKind) → ComesBefore (rank TheDefinition k) (2 ∷ 0 ∷ [])
before_operation fault.Twice = inl (omega arith)
before_operation k = inl (omega arith)

module _ (kept : Entries) (earlier : Lines) (s : Statement) (on : On kept earlier s) where
  abbrev laid : ℕ → Laid
  laid v = row (place_after earlier) true v

  at_definition : (f : Fault) → DefinitionVerdict kept earlier s (Err f)
      → StatementVerdict kept earlier s (Err f)
  at_definition f d = (TheDefinition, (on, d.0), after)
    where
      after : (other : Part) (g : Fault) → StandsAfter kept earlier s other g
          → Follows TheDefinition f other g
      after TheDefinition g a = d.1 g a.1
      after (TheOperand i) g a = inr (before_operands f.1 i)
      after TheOperation g a = inr (before_operation f.1)

  at_operand : (f : Fault) → DefinitionVerdict kept earlier s (Ok tt) → OperandVerdict kept earlier s (Err f)
      → StatementVerdict kept earlier s (Err f)
  at_operand f d e = (TheOperand 0, (on, e.0), after)
    where
      after : (other : Part) (g : Fault) → StandsAfter kept earlier s other g
          → Follows (TheOperand 0) f other g
      after TheDefinition g a = absurd (d g a.1)
      after (TheOperand i) g a = inl (e.1 i g a.1)
      after TheOperation g a = inr (inl (omega arith))

  at_operation : (v : ℕ) (f : Fault) → DefinitionVerdict kept earlier s (Ok tt)
      → OperandVerdict kept earlier s (Ok v) → OperationVerdict kept earlier s (Err f)
      → StatementVerdict kept earlier s (Err f)
  at_operation v f d e w = (TheOperation, (on, w.0), after)
    where
      after : (other : Part) (g : Fault) → StandsAfter kept earlier s other g → Follows TheOperation f other g
      after TheDefinition g a = absurd (d g a.1)
      after (TheOperand i) g a = absurd (e i g a.1)
      after TheOperation g a = inl (w.1 g a.1)

  at_none : (v : ℕ) → DefinitionVerdict kept earlier s (Ok tt) → OperandVerdict kept earlier s (Ok v)
      → OperationVerdict kept earlier s (Ok tt) → Fits kept earlier s (laid v)
      → StatementVerdict kept earlier s (Ok (laid v))
  at_none v d e w fit = (fit, none)
    where
      none : (part : Part) (g : Fault) → StandsAfter kept earlier s part g → ⊥
      none TheDefinition g a = d g a.1
      none (TheOperand i) g a = e i g a.1
      none TheOperation g a = w g a.1

  fits_here : (v : ℕ) → early (past kept earlier) (here earlier) (on_action early_in None s) ≡ Ok v
      → Fits kept earlier s (laid v)
  fits_here v e = record {
    place = refl;
    assembled = sym on;
    value = early_is kept earlier (place_after earlier) v true (on_action early_in None s) e;
  }

  with_place : (v : ℕ) (w : Result (Unit {0}) Fault) → DefinitionVerdict kept earlier s (Ok tt)
      → OperandVerdict kept earlier s (Ok v) → Fits kept earlier s (laid v)
      → OperationVerdict kept earlier s w
      → StatementVerdict kept earlier s (w >>= λ x. done (laid v))
  with_place v (Ok x) d e fit w = at_none v d e w fit
  with_place v (Err f) d e fit w = at_operation v f d e w

  with_value : (e : Result ℕ Fault)
      → early (past kept earlier) (here earlier) (on_action early_in None s) ≡ e
      → DefinitionVerdict kept earlier s (Ok tt) → OperandVerdict kept earlier s e
      → StatementVerdict kept earlier s
      (e >>= λ v. within (place_after earlier) v s.operation >>= λ x. done (laid v))
  with_value (Ok v) is d e =
      with_place v (within (place_after earlier) v s.operation) d e (fits_here v is)
      (operation_judged kept earlier s (laid v) s.operation (fits_here v is) refl)
  with_value (Err f) is d e = at_operand f d e

  with_definition : (c : Result (Unit {0}) Fault) → DefinitionVerdict kept earlier s c
      → StatementVerdict kept earlier s
      (c >>= λ u. early (past kept earlier) (here earlier) (on_action early_in None s)
      >>= λ v. within (place_after earlier) v s.operation >>= λ x. done (laid v))
  with_definition (Ok u) d =
      with_value (early (past kept earlier) (here earlier) (on_action early_in None s)) refl d
      (operand_judged kept earlier s (on_action early_in None s) refl)
  with_definition (Err f) d = at_definition f d

  assembled_judged : StatementVerdict kept earlier s
      (lay_statement (past kept earlier) (place_after earlier) s)
  assembled_judged =
      with_definition (check_definition (past kept earlier) (on_action early_in None s) (definition_of s))
      (definition_judged kept earlier s (definition_of s) refl)

left_out : (kept : Entries) (earlier : Lines) (s : Statement)
    → is_selected (has_ended earlier) (parts_after earlier) s ≡ false
    → StatementVerdict kept earlier s (Ok (row (place_after earlier) false 0))
left_out kept earlier s off = (
  record { place = refl; assembled = sym off; value = refl },
  λ part g a. false≢true (sym off ∙ a.0),
)

pub statement_judged : (kept : Entries) (earlier : Lines) (s : Statement)
    → StatementVerdict kept earlier s (laid_after kept earlier s)
statement_judged kept earlier s = by (is_selected (has_ended earlier) (parts_after earlier) s) refl
  where
    by : (b : Bool) → is_selected (has_ended earlier) (parts_after earlier) s ≡ b
        → StatementVerdict kept earlier s (laid_out (past kept earlier) (place_after earlier) b s)
    by true on = assembled_judged kept earlier s on
    by false off = left_out kept earlier s off
