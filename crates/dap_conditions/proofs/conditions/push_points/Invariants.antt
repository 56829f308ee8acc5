use Rattle.std.proofs.Common.{◌≡◌, ◌++◌, length}
use Rattle.lab_core.specs.Board.{Board}
use Rattle.lab_core.specs.Labs.{RepresentsBoard}
use Rattle.dap_conditions.specs.Conditions.{conditional_points}
use Rattle.dap_conditions.proofs.conditions.push_points.Given as goal

-- those so far, and those of the breakpoints that are left
abbrev pub invariant-loop-point : goal.invariant-loop-point
invariant-loop-point l = (b : Board) → RepresentsBoard l.fn.lab b
    → l.points ++ conditional_points l.path l.taken b l.left
    ≡ l.fn.points ++ conditional_points l.path l.taken b l.placed

abbrev pub decreases-loop-point : goal.decreases-loop-point
decreases-loop-point l = length l.left
