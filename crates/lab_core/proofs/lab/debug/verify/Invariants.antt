use Rattle.std.proofs.Common.{◌≡◌, map, take}
use Rattle.lab_core.specs.Events.{breakpoint_at}
use Rattle.lab_core.proofs.lab.debug.verify.Given as goal

abbrev pub invariant-loop-line : goal.invariant-loop-line
invariant-loop-line l = l.breakpoints ≡ map (breakpoint_at l.text) (take l.line-index l.lines)
