use Rattle.std.proofs.Common.{◌≡◌, ◌++◌, length}
use Rattle.dap_points.specs.Boards.{plain_lines}
use Rattle.dap_points.proofs.board.push_plain.Given as goal

-- those so far, and those of the breakpoints that are left
abbrev pub invariant-loop-point : goal.invariant-loop-point
invariant-loop-point l = l.lines ++ plain_lines l.left ≡ l.fn.lines ++ plain_lines l.points

abbrev pub decreases-loop-point : goal.decreases-loop-point
decreases-loop-point l = length l.left
