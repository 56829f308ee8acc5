-- How a place is shown after a change.
use Rattle.std.proofs.Common.{◌≡◌, ℕ, Some, Result, Ok, Err, refl, sym, ap, ◌∙◌}
use Rattle.i80_exec.specs.State.{MachineState}
use Rattle.asm_syntax.specs.declared.keyword.RegisterWord.{RegisterWord}
use Rattle.asm_syntax.specs.declared.keyword.RegisterWord.TheVariants as word
use Rattle.asm_syntax.specs.Outcome.{◌>>=◌}
use Rattle.asm_expr.specs.declared.evaluation.ExprFault.{ExprFault}
use Rattle.lab_views.specs.Law.{IsWhole}
use Rattle.lab_core.specs.Board.{Board}
use Rattle.dap_expr.specs.declared.part.Part.TheVariants as part
use Rattle.dap_expr.specs.declared.expression.Expression.{Expression}
use Rattle.dap_expr.specs.Values.{value_on}
use Rattle.dap_history.specs.declared.input.Input.{Input}
use Rattle.dap_history.specs.Runs.{after_input}
use Rattle.dap_messages.specs.declared.message.ShownValue.{ShownValue}
use Rattle.dap_messages.specs.declared.message.ValueFormat.{ValueFormat}
use Rattle.dap_values.specs.declared.change.ChangeFault.{ChangeFault}
use Rattle.dap_values.specs.declared.target.Target.{Target}
use Rattle.dap_values.specs.declared.target.Target.TheVariants as target
use Rattle.dap_values.specs.Targets.{target_on, value_at}
use Rattle.dap_values.specs.Changes.{with_value, value_taken, input_of}
use Rattle.dap_values.proofs.ChangeLemmas.{others_stay, change_is_there}
use Rattle.dap_values.specs.declared.assignment.SetValue.{SetValue}
use Rattle.dap_values.proofs.ValueLemmas.{target_has_value}
use Rattle.dap_values.specs.Shown.{memory_of, shown_as, shown_at}
use Rattle.dap_values.specs.Evaluation.{expression_shown}
use Rattle.dap_values.specs.Assignments.{or_fault, set_to}

-- only M is shown with what the registers lead to, and its change leaves them
register_memory : (m : MachineState) (name : RegisterWord) (value shown : ℕ)
    → memory_of (with_value m (target.Part (part.Register name)) value).regs
    (target.Part (part.Register name)) shown
    ≡ memory_of m.regs (target.Part (part.Register name)) shown
register_memory m word.A value shown = refl
register_memory m word.B value shown = refl
register_memory m word.C value shown = refl
register_memory m word.D value shown = refl
register_memory m word.E value shown = refl
register_memory m word.H value shown = refl
register_memory m word.L value shown = refl
register_memory m word.M value shown = refl
register_memory m word.Sp value shown = refl
register_memory m word.Psw value shown = refl

memory_stays : (m : MachineState) (t : Target) (value shown : ℕ)
    → memory_of (with_value m t value).regs t shown ≡ memory_of m.regs t shown
memory_stays m (target.Part (part.Register name)) value shown = register_memory m name value shown
memory_stays m (target.Part part.Bc) value shown = refl
memory_stays m (target.Part part.De) value shown = refl
memory_stays m (target.Part part.Hl) value shown = refl
memory_stays m (target.Part part.Pc) value shown = refl
memory_stays m (target.Part part.Sign) value shown = refl
memory_stays m (target.Part part.Zero) value shown = refl
memory_stays m (target.Part part.Parity) value shown = refl
memory_stays m (target.Part part.Carry) value shown = refl
memory_stays m (target.Part part.AuxiliaryCarry) value shown = refl
memory_stays m (target.Byte address) value shown = refl
memory_stays m (target.Word address) value shown = refl

shown_after : (b : Board) (t : Target) (value : ℕ) (i : Input) (format : ValueFormat) → IsWhole b.machine
    → input_of b.machine.regs t value ≡ Ok i
    → shown_as b.machine.regs t (value_taken t value) format ≡ shown_at (after_input i b).machine t format
shown_after b t value i format whole is =
    let after = (after_input i b).machine in
    let taken = value_taken t value in
    let same : memory_of after.regs t taken ≡ memory_of b.machine.regs t taken =
    ap (λ (m : MachineState). memory_of m.regs t taken) (others_stay b t value i is)
    ∙ memory_stays b.machine t value taken in
    let there : value_at after t ≡ taken = change_is_there b t value i whole is in
    rw (there, same) refl

pub change_is_shown : (b : Board) (t : Target) (value : ℕ) (s : SetValue) (format : ValueFormat)
    → IsWhole b.machine → set_to b.machine.regs t value format ≡ Ok s
    → s.shown ≡ shown_at (after_input s.input b).machine t format
change_is_shown b t value s format whole is = by (input_of b.machine.regs t value) refl is
  where
    shown : ShownValue
    shown = shown_as b.machine.regs t (value_taken t value) format

    by : (found : Result Input ChangeFault) → input_of b.machine.regs t value ≡ found
        → (or_fault found >>= λ i. Ok (record { input = i; shown = shown })) ≡ Ok s
        → s.shown ≡ shown_at (after_input s.input b).machine t format
    by (Ok i) found e =
        let made : record { input = i; shown = shown } ≡ s = cc in
        sym (ap (λ (x : SetValue). x.shown) made) ∙ shown_after b t value i format whole found
        ∙ ap (λ (x : SetValue). shown_at (after_input x.input b).machine t format) made
    by (Err why) found e = absurd cc

-- a place that has its expression's value is shown with it
pub value_is_shown : (b : Board) (e : Expression) (t : Target) (value : ℕ) (format : ValueFormat)
    → target_on b e ≡ Some t → value_on b e ≡ Ok value
    → expression_shown b e format ≡ Ok (shown_as b.machine.regs t value format)
value_is_shown b e t value format names has =
    let held : Result ℕ ExprFault = Ok (value_at b.machine t) in
    let both : held ≡ Ok value = sym (target_has_value b e t names) ∙ has in
    let same : value_at b.machine t ≡ value = cc in
    rw names (ap (λ v. Ok (shown_as b.machine.regs t v format)) same)
