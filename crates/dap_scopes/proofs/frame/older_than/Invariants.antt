use Rattle.std.proofs.Common.{◌≡◌, drop, reverse}
use Rattle.dap_scopes.specs.Stack.{older_than}
use Rattle.dap_scopes.proofs.frame.older_than.Given as goal

abbrev pub invariant-loop-age : goal.invariant-loop-age
invariant-loop-age l =
    older_than l.address (drop l.age (reverse l.frames)) ≡ older_than l.address (reverse l.frames)
