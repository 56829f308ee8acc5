use Rattle.std.proofs.Common.{◌≤◌, length}
use Rattle.dap_history.proofs.saved.nearest.Given as goal

abbrev pub invariant-loop-i : goal.invariant-loop-i
invariant-loop-i l = l.i ≤ length l.moments

abbrev pub decreases-loop-i : goal.decreases-loop-i
decreases-loop-i l = l.i
