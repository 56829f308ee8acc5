use Rattle.std.proofs.Common.{◌≡◌, ◌++◌, map, take, drop}
use Rattle.dap_slice.specs.Counts.{without_count}
use Rattle.dap_slice.proofs.conditions.ConditionalBreakpoints.forget_hits.Given as goal

abbrev pub invariant-loop-point : goal.invariant-loop-point
invariant-loop-point l =
    l.point-items ≡ map without_count (take l.point-index l.fn.self) ++ drop l.point-index l.fn.self
