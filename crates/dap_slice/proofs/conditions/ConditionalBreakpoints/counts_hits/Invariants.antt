use Rattle.std.proofs.Common.{◌≡◌, false, is_some, take}
use Rattle.std.specs.List.{list_any}
use Rattle.dap_slice.proofs.conditions.ConditionalBreakpoints.counts_hits.Given as goal

abbrev pub invariant-loop-point : goal.invariant-loop-point
invariant-loop-point l = list_any (λ p. is_some p.hits) (take l.point-index l.point-items) ≡ false
