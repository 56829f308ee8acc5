use Rattle.std.proofs.Common.{◌≡◌, ◌++◌}
use Rattle.dap_breakpoints.proofs.report.push_points.Given as goal

abbrev pub invariant-loop-point : goal.invariant-loop-point
invariant-loop-point l = l.all ++ l.point-iterator.rest.items ≡ l.fn.all ++ l.fn.points
