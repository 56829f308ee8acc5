use Rattle.std.proofs.Common.{◌≤◌, ◌<◌, refl, arith}
use Rattle.i80_exec.proofs.OpcodeLemmas.{never_moves, compute_row, past}
use Rattle.i80_base.specs.declared.instruction.Operation.TheVariants.{Sbb}
use Rattle.i80_exec.proofs.ArmingLemmas.{never_arming, operated_settles}
use Rattle.i80_exec.proofs.machine.Machine.step_80.Goals as goal

pub returns-then-opcode-eq159-clause-outcome : goal.returns-then-opcode-eq159-clause-outcome
returns-then-opcode-eq159-clause-outcome c =
    let row = compute_row c.args.opcode (λ _. 0) c.args.self.now c.requires.low c.requires.high in
    record {
      after_is = rw (row, c.if-opcode-eq159.true, c.sbb_a.ensures, c.advance.ensures) refl;
      operation_is = rw row refl;
      answer_is = rw row refl;
    }

pub returns-then-opcode-eq159-clause-settles : goal.returns-then-opcode-eq159-clause-settles
returns-then-opcode-eq159-clause-settles c =
    let m = past c.args.self.now in
    rw (c.sbb_a.ensures, c.advance.ensures) (operated_settles Sbb m m.regs.a
    (never_arming c.args.self.now.regs.interrupts))

pub returns-clause-outcome : goal.returns-clause-outcome
returns-clause-outcome c =
    let row = compute_row c.args.opcode (λ _. 0) c.args.self.now c.requires.low c.requires.high in
    record {
      after_is = rw (
        row,
        c.operate_by.ensures,
        c.get-byte.ensures,
        c.reg_at-from.ensures,
        c.advance.ensures,
      ) refl;
      operation_is = rw row refl;
      answer_is = rw row refl;
    }

pub returns-clause-settles : goal.returns-clause-settles
returns-clause-settles c =
    rw (c.operate_by.ensures, c.advance.ensures) (operated_settles _ _ c.get-byte.result
    (never_arming c.args.self.now.regs.interrupts))

pub returns-then-opcode-eq159-clause-moved : goal.returns-then-opcode-eq159-clause-moved
returns-then-opcode-eq159-clause-moved c =
    let low : 64 ≤ c.args.opcode = omega arith in
    let high : c.args.opcode < 192 = omega arith in
    never_moves c.args.opcode low high

pub returns-clause-moved : goal.returns-clause-moved
returns-clause-moved c =
    let low : 64 ≤ c.args.opcode = omega arith in
    let high : c.args.opcode < 192 = omega arith in
    never_moves c.args.opcode low high
