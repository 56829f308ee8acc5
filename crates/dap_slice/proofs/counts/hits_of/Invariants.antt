use Rattle.std.proofs.Common.{◌≡◌, length}
use Rattle.dap_slice.specs.Counts.{hits_of}
use Rattle.dap_slice.proofs.counts.hits_of.Given as goal

-- what is left has the breakpoint, if it is there
abbrev pub invariant-loop-point : goal.invariant-loop-point
invariant-loop-point l = hits_of l.id l.left ≡ hits_of l.id l.points

abbrev pub decreases-loop-point : goal.decreases-loop-point
decreases-loop-point l = length l.left
