use Rattle.std.proofs.Common.{◌≡◌, ◌∙◌, Some, None, true, false, if◌then◌else◌, refl, sym, ap}
use Rattle.i80_exec.specs.State.{MachineState}
use Rattle.i80_exec.specs.declared.registers.Registers.{Registers}
use Rattle.i80_exec.specs.declared.registers.Interrupts.{Interrupts}
use Rattle.lab_core.specs.declared.answer.SliceOutcome.TheVariants as outcome
use Rattle.lab_core.specs.declared.answer.End.TheVariants as end
use Rattle.lab_core.specs.Slices.{ends_in_halt, is_off}
use Rattle.lab_core.proofs.lab.Context.halt_end.Goals as goal

pub returns-then-self : goal.returns-then-self
returns-then-self c = λ lab b traffic s.
    let ended : ends_in_halt b.trace ≡ true = sym s.is_halted ∙ c.if-self.true in
    let interrupts : c.regs.result.interrupts ≡ b.machine.regs.interrupts =
    ap (λ (r : Registers). r.interrupts) c.regs.ensures
    ∙ ap (λ (m : MachineState). m.regs.interrupts) s.machine in
    rw ended (c.end_after_halt.ensures ∙ ap (λ (i : Interrupts).
    if is_off i then Some (outcome.End end.Halted) else None) interrupts)

pub returns-else-self : goal.returns-else-self
returns-else-self c = λ lab b traffic s.
    let goes_on : ends_in_halt b.trace ≡ false = sym s.is_halted ∙ c.if-self.false in
    rw goes_on refl
