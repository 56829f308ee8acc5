use Rattle.std.proofs.Common.{◌∙◌, ap}
use Rattle.i80_exec.specs.declared.registers.Registers.{Registers}
use Rattle.lab_core.specs.Marks.{register_at}
use Rattle.lab_core.proofs.MarkLemmas.{register-value}
use Rattle.lab_core.proofs.marks.value_at.Goals as goal

pub returns-in_default : goal.returns-in_default
returns-in_default c =
    c.register_at.ensures ∙ ap (λ (r : Registers). register_at c.args.place r) c.regs.ensures
    ∙ register-value c.args.place c.args.machine.now c.in_default.not-Memory
