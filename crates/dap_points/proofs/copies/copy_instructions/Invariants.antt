use Rattle.std.proofs.Common.{◌≡◌, take}
use Rattle.dap_points.proofs.copies.copy_instructions.Given as goal

abbrev pub invariant-loop-breakpoint : goal.invariant-loop-breakpoint
invariant-loop-breakpoint l = l.copies ≡ take l.breakpoint-index l.breakpoints
