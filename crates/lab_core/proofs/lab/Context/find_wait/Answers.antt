use Rattle.std.proofs.Common.{◌≡◌, ◌∙◌, ℕ, Option, Some, None, true, false, ◌&&◌, if◌then◌else◌, refl, sym}
use Rattle.std.proofs.Common.{ap}
use Rattle.std.specs.Option.{is_none}
use Rattle.i80_exec.specs.State.{MachineState}
use Rattle.i80_exec.specs.declared.registers.Registers.{Registers}
use Rattle.i80_exec.specs.declared.registers.Interrupts.{Interrupts}
use Rattle.i80_devs.specs.Past.{panel_after}
use Rattle.lab_core.specs.declared.answer.SliceOutcome.TheVariants as outcome
use Rattle.lab_core.specs.Slices.{ends_in_halt, is_on}
use Rattle.lab_core.proofs.lab.Context.find_wait.Goals as goal

pub returns-then-self : goal.returns-then-self
returns-then-self c = λ lab b traffic s.
    let ended : ends_in_halt b.trace ≡ true = sym s.is_halted ∙ c.if-self.true in
    let interrupts : c.regs.result.interrupts ≡ b.machine.regs.interrupts =
    ap (λ (r : Registers). r.interrupts) c.regs.ensures
    ∙ ap (λ (m : MachineState). m.regs.interrupts) s.machine in
    let request : c.request.result ≡ (panel_after b.past).latched =
    c.request.ensures.value b.past s.devices in
    rw ended (c.wait_after_halt.ensures
    ∙ ap (λ (i : Interrupts). if is_on i && is_none c.request.result then Some outcome.Waiting else None)
    interrupts
    ∙ ap (λ (r : Option ℕ). if is_on b.machine.regs.interrupts
    && is_none r then Some outcome.Waiting else None) request)

pub returns-else-self : goal.returns-else-self
returns-else-self c = λ lab b traffic s.
    let goes_on : ends_in_halt b.trace ≡ false = sym s.is_halted ∙ c.if-self.false in
    rw goes_on refl
