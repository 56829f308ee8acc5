use Rattle.std.proofs.Common.{◌≡◌, ◌++◌, map, take, drop}
use Rattle.dap_slice.specs.Counts.{hits_on}
use Rattle.dap_slice.proofs.CountLemmas.{rehit}
use Rattle.dap_slice.proofs.conditions.ConditionalBreakpoints.keep_counts.Given as goal

abbrev pub invariant-loop-point : goal.invariant-loop-point
invariant-loop-point l =
    l.point-items ≡ map (rehit (hits_on l.number l.old)) (take l.point-index l.fn.self)
    ++ drop l.point-index l.fn.self
