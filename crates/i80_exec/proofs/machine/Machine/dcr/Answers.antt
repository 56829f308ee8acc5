use Rattle.std.proofs.Common.{◌+◌}
use Rattle.i80_base.specs.declared.instruction.Instr.TheVariants.{Nop}
use Rattle.i80_exec.specs.State.{modulo_65536, with_pc}
use Rattle.i80_exec.specs.Step.{interrupts_after}
use Rattle.i80_exec.proofs.OpcodeLemmas.{decremented}
use Rattle.i80_exec.proofs.machine.Machine.dcr.Goals as goal

pub returns : goal.returns
returns c =
    let m = c.args.self.now in
    rw (c.put_result.ensures, c.dcr.ensures, c.get.ensures, c.carry.ensures, c.advance.ensures)
    (decremented (with_pc m (modulo_65536 (m.regs.pc + 1))) (interrupts_after Nop m.regs.interrupts)
    c.args.reg)
