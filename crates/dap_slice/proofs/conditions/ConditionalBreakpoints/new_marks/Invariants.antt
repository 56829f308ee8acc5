use Rattle.std.proofs.Common.{take}
use Rattle.dap_slice.specs.Conditions.{IsMarked}
use Rattle.dap_slice.proofs.conditions.ConditionalBreakpoints.new_marks.Given as goal

abbrev pub invariant-loop-point : goal.invariant-loop-point
invariant-loop-point l = IsMarked (take l.point-index l.point-items) l.marks
