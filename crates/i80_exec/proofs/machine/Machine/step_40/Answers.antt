use Rattle.std.proofs.Common.{◌≤◌, ◌<◌, refl, arith}
use Rattle.i80_exec.proofs.OpcodeLemmas.{never_moves, halt_row, move_row}
use Rattle.i80_exec.proofs.ArmingLemmas.{never_arming, put_settles}
use Rattle.i80_exec.proofs.machine.Machine.step_40.Goals as goal

pub returns-then-opcode-eq118-clause-outcome : goal.returns-then-opcode-eq118-clause-outcome
returns-then-opcode-eq118-clause-outcome c =
    let row = halt_row c.args.opcode (λ _. 0) c.args.self.now c.requires.low c.requires.high
    c.if-opcode-eq118.true in
    record {
      after_is = rw (row, c.advance.ensures) refl;
      operation_is = rw row refl;
      answer_is = rw row refl;
    }

pub returns-then-opcode-eq118-clause-settles : goal.returns-then-opcode-eq118-clause-settles
returns-then-opcode-eq118-clause-settles c =
    rw c.advance.ensures (never_arming c.args.self.now.regs.interrupts)

pub returns-clause-outcome : goal.returns-clause-outcome
returns-clause-outcome c =
    let row = move_row c.args.opcode (λ _. 0) c.args.self.now c.requires.low c.requires.high
    c.if-opcode-eq118.false in
    record {
      after_is = rw (
        row,
        c.put.ensures,
        c.get-byte.ensures,
        c.reg_at-from.ensures,
        c.reg_at-to.ensures,
        c.advance.ensures,
      ) refl;
      operation_is = rw row refl;
      answer_is = rw row refl;
    }

pub returns-clause-settles : goal.returns-clause-settles
returns-clause-settles c =
    rw (c.put.ensures, c.advance.ensures) (put_settles c.reg_at-to.result _ c.get-byte.result
    (never_arming c.args.self.now.regs.interrupts))

pub returns-then-opcode-eq118-clause-moved : goal.returns-then-opcode-eq118-clause-moved
returns-then-opcode-eq118-clause-moved c =
    let low : 64 ≤ c.args.opcode = omega arith in
    let high : c.args.opcode < 192 = omega arith in
    never_moves c.args.opcode low high

pub returns-clause-moved : goal.returns-clause-moved
returns-clause-moved c =
    let low : 64 ≤ c.args.opcode = omega arith in
    let high : c.args.opcode < 192 = omega arith in
    never_moves c.args.opcode low high
