use Rattle.std.proofs.Common.{◌≡◌, ◌≤◌, ◌+◌, ◌++◌, length}
use Rattle.dap_points.specs.Placed.{line_points}
use Rattle.dap_points.proofs.placed.line_points.Given as goal

-- those so far, and those on the lines that are left
abbrev pub invariant-loop-line : goal.invariant-loop-line
invariant-loop-line l = record {
  placed : l.points ++ line_points l.number l.index l.left ≡ line_points l.number 0 l.lines;
  few : l.index + length l.left ≤ 256;
}

abbrev pub decreases-loop-line : goal.decreases-loop-line
decreases-loop-line l = length l.left
