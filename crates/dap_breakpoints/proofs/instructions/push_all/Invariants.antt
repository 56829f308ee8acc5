use Rattle.std.proofs.Common.{◌≡◌, ◌++◌, length}
use Rattle.std.specs.List.{filter_map}
use Rattle.dap_breakpoints.specs.Instructions.{break_of}
use Rattle.dap_breakpoints.proofs.instructions.push_all.Given as goal

-- those so far, and those of the breakpoints that are left
abbrev pub invariant-loop-point : goal.invariant-loop-point
invariant-loop-point l =
    l.points ++ filter_map break_of l.left ≡ l.fn.points ++ filter_map break_of l.placed

abbrev pub decreases-loop-point : goal.decreases-loop-point
decreases-loop-point l = length l.left
