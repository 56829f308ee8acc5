use Rattle.std.proofs.Common.{◌≡◌, length}
use Rattle.dap_history.specs.Logs.{Ascends, later_than}
use Rattle.dap_history.proofs.log.later.Given as goal

abbrev pub invariant-loop-first : goal.invariant-loop-first
invariant-loop-first l = record {
  same : later_than l.count l.rest ≡ later_than l.count l.entries;
  ascends : Ascends 0 l.rest;
}

abbrev pub decreases-loop-first : goal.decreases-loop-first
decreases-loop-first l = length l.rest
