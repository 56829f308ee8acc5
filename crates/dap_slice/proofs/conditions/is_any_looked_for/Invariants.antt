use Rattle.std.proofs.Common.{◌≡◌, false, take}
use Rattle.dap_slice.specs.Conditions.{is_any_looked_for}
use Rattle.dap_slice.proofs.conditions.is_any_looked_for.Given as goal

abbrev pub invariant-loop-point : goal.invariant-loop-point
invariant-loop-point l = is_any_looked_for (take l.point-index l.points) ≡ false
