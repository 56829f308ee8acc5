use Rattle.std.proofs.Common.{◌≡◌, ◌++◌, length}
use Rattle.dap_points.specs.Changes.{changed_points}
use Rattle.dap_points.proofs.changes.changed_points.Given as goal

-- those so far, and those of the breakpoints that are left
abbrev pub invariant-loop-point : goal.invariant-loop-point
invariant-loop-point l = l.points ++ changed_points l.before_left l.left ≡ changed_points l.before l.after

abbrev pub decreases-loop-point : goal.decreases-loop-point
decreases-loop-point l = length l.left
