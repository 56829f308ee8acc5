use Rattle.std.proofs.Common.{◌≡◌, ◌++◌, length}
use Rattle.dap_breakpoints.specs.Data.{watches_by}
use Rattle.dap_breakpoints.proofs.data.push_all.Given as goal

-- those so far, and those of the breakpoints that are left
abbrev pub invariant-loop-breakpoint : goal.invariant-loop-breakpoint
invariant-loop-breakpoint l =
    l.points ++ watches_by l.left l.told ≡ l.fn.points ++ watches_by l.breakpoints l.placed

abbrev pub decreases-loop-breakpoint : goal.decreases-loop-breakpoint
decreases-loop-breakpoint l = length l.left
