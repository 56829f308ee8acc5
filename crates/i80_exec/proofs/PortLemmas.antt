-- A row that asks no port is the same whatever the ports answer.
use Rattle.std.proofs.Common.{◌≡◌, ℕ, ◌+◌, None, refl, ap, sym, ◌∙◌, append-nil, add-zero}
use Rattle.std.proofs.lemmas.Option.{none-some}
use Rattle.i80_base.specs.declared.instruction.Instr.{Instr}
use Rattle.i80_base.specs.declared.instruction.Instr.TheVariants.{In}
use Rattle.i80_base.specs.Rows.{Row, Undefined, Alone, Byte, Word}
use Rattle.i80_exec.specs.declared.registers.Stepped.{Stepped}
use Rattle.i80_exec.specs.State.{MachineState, modulo_65536, byte_at, word_at, with_pc}
use Rattle.i80_exec.specs.Effect.{effect}
use Rattle.i80_exec.specs.Step.{by_row, with_interrupts_after, PortDevices}
use Rattle.i80_exec.specs.Step.{IsOutcome, IsWithoutPort, Performs}

-- so does an effect
unasked_effect : (i : Instr) (input : ℕ → ℕ) (m : MachineState) → (effect i (λ _. 0) m).operation ≡ None
    → effect i input m ≡ effect i (λ _. 0) m
unasked_effect (In port) input m silent = absurd (none-some _ (sym silent))
unasked_effect _ input m silent = refl

pub unasked_row : (r : Row) (input : ℕ → ℕ) (m : MachineState)
    → (by_row r (λ _. 0) m).operation ≡ None
    → by_row r input m ≡ by_row r (λ _. 0) m
unasked_row Undefined input m silent = refl
unasked_row (Alone i) input m silent =
    ap (with_interrupts_after i m.regs.interrupts)
    (unasked_effect i input (with_pc m (modulo_65536 (m.regs.pc + 1))) silent)
unasked_row (Byte f) input m silent =
    let i = f (byte_at m (m.regs.pc + 1)) in
    ap (with_interrupts_after i m.regs.interrupts)
    (unasked_effect i input (with_pc m (modulo_65536 (m.regs.pc + 2))) silent)
unasked_row (Word f) input m silent =
    let i = f (word_at m (m.regs.pc + 1)) in
    ap (with_interrupts_after i m.regs.interrupts)
    (unasked_effect i input (with_pc m (modulo_65536 (m.regs.pc + 3))) silent)

-- what asked no port is the outcome, whatever the ports would answer, and nothing was done at them
pub outcome_without_port : {S : Type 0} (r : Row) (m after : MachineState) (answer : Stepped)
    (devices devices' : PortDevices S) → IsWithoutPort (by_row r (λ _. 0) m) after answer
    → devices'.operations ≡ devices.operations → devices'.state ≡ devices.state
    → devices'.spare ≡ devices.spare
    → IsOutcome (by_row r devices.input m) after answer × Performs (by_row r devices.input m) devices devices'
outcome_without_port r m after answer devices devices' does same_operations same_state same_spare =
    let row = unasked_row r devices.input m does.operation_is in (
      rw row (record { after_is = does.after_is; answer_is = does.answer_is }),
      record {
        appended = rw (row, does.operation_is) (same_operations ∙ sym (append-nil _));
        state_is = rw (row, does.operation_is) same_state;
        spare_is = rw (row, does.operation_is) (add-zero _ ∙ same_spare);
      },
    )
