use Rattle.std.proofs.Common.{◌≡◌, take}
use Rattle.dap_points.proofs.copies.copy_functions.Given as goal

abbrev pub invariant-loop-function : goal.invariant-loop-function
invariant-loop-function l = l.copies ≡ take l.function-index l.functions
