use Rattle.std.proofs.Common.{◌≡◌, ◌++◌, length}
use Rattle.lab_core.specs.Board.{Board}
use Rattle.lab_core.specs.Labs.{RepresentsBoard}
use Rattle.dap_slice.specs.Logs.{logs_on}
use Rattle.dap_slice.proofs.conditions.ConditionalBreakpoints.logs.Given as goal

-- those so far, and those of the breakpoints that are left
abbrev pub invariant-loop-point : goal.invariant-loop-point
invariant-loop-point l =
    (b : Board) → RepresentsBoard l.lab b → l.lines ++ logs_on l.left b ≡ logs_on l.self b

abbrev pub decreases-loop-point : goal.decreases-loop-point
decreases-loop-point l = length l.left
