use Rattle.std.proofs.Common.{Some, sym, ap, arith}
use Rattle.asm_expr.proofs.Shifts.{far_left, far_right}
use Rattle.asm_expr.proofs.evaluation.binary.Goals as goal

pub returns-then-y-ge16 : goal.returns-then-y-ge16
returns-then-y-ge16 c = rw c.in-ShiftLeft.is (ap Some (sym (far_left c.args.x c.args.y c.if-y-ge16.true)))

pub returns-then-y-ge16-2 : goal.returns-then-y-ge16-2
returns-then-y-ge16-2 c =
    rw c.in-ShiftRight.is (ap Some (sym (far_right c.args.x c.args.y (omega arith) c.if-y-ge16-2.true)))
