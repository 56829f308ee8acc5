use Rattle.std.proofs.Common.{◌≡◌, ◌≤◌, ◌+◌, ◌++◌, length}
use Rattle.dap_points.specs.Placed.{points_by}
use Rattle.dap_points.proofs.placed.listed_points.Given as goal

-- those so far, and those that are left
abbrev pub invariant-loop-first : goal.invariant-loop-first
invariant-loop-first g l = record {
  placed : l.points ++ points_by g.T.Listed.point l.index l.left ≡ points_by g.T.Listed.point 0 l.breakpoints;
  few : l.index + length l.left ≤ 256;
}

abbrev pub decreases-loop-first : goal.decreases-loop-first
decreases-loop-first g l = length l.left
