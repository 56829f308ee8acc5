use Rattle.std.proofs.Common.{◌∙◌, sym}
use Rattle.i80_base.specs.AliasRows.{row_on}
use Rattle.i80_exec.specs.State.{byte_at}
use Rattle.i80_exec.proofs.ArmingLemmas.{settled_step}
use Rattle.i80_exec.proofs.machine.Machine.step_at_pc.Goals as goal

pub returns-then-was_arming-clause-after : goal.returns-then-was_arming-clause-after
returns-then-was_arming-clause-after g c =
    let m = c.args.self.now in
    let o = rw (c.settle-was_arming.ensures.settled) at c.step_settled-kind.ensures.outcome in
    let arming = sym c.settle-was_arming.ensures.was ∙ c.if-was_arming.true in
    let s = settled_step (row_on m.board (byte_at m m.regs.pc)) _ m _ _ arming o.0 in
    rw (c.arm_again.ensures, c.report-answer.ensures) s.after_is

pub returns-then-was_arming-clause-answer : goal.returns-then-was_arming-clause-answer
returns-then-was_arming-clause-answer g c =
    let m = c.args.self.now in
    let o = rw (c.settle-was_arming.ensures.settled) at c.step_settled-kind.ensures.outcome in
    let arming = sym c.settle-was_arming.ensures.was ∙ c.if-was_arming.true in
    let s = settled_step (row_on m.board (byte_at m m.regs.pc)) _ m _ _ arming o.0 in
    c.report-answer.ensures ∙ s.answer_is

pub returns-then-was_arming-clause-operations : goal.returns-then-was_arming-clause-operations
returns-then-was_arming-clause-operations g c =
    let m = c.args.self.now in
    let o = rw (c.settle-was_arming.ensures.settled) at c.step_settled-kind.ensures.outcome in
    let arming = sym c.settle-was_arming.ensures.was ∙ c.if-was_arming.true in
    let s = settled_step (row_on m.board (byte_at m m.regs.pc)) _ m _ _ arming o.0 in
    rw s.operation_is at o.1.appended

pub returns-then-was_arming-clause-state : goal.returns-then-was_arming-clause-state
returns-then-was_arming-clause-state g c =
    let m = c.args.self.now in
    let o = rw (c.settle-was_arming.ensures.settled) at c.step_settled-kind.ensures.outcome in
    let arming = sym c.settle-was_arming.ensures.was ∙ c.if-was_arming.true in
    let s = settled_step (row_on m.board (byte_at m m.regs.pc)) _ m _ _ arming o.0 in
    rw s.operation_is at o.1.state_is

pub returns-then-was_arming-clause-spare : goal.returns-then-was_arming-clause-spare
returns-then-was_arming-clause-spare g c =
    let m = c.args.self.now in
    let o = rw (c.settle-was_arming.ensures.settled) at c.step_settled-kind.ensures.outcome in
    let arming = sym c.settle-was_arming.ensures.was ∙ c.if-was_arming.true in
    let s = settled_step (row_on m.board (byte_at m m.regs.pc)) _ m _ _ arming o.0 in
    rw s.operation_is at o.1.spare_is
