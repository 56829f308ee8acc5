use Rattle.std.proofs.Common.{◌≡◌, map}
use Rattle.std.specs.List.{range_with_len}
use Rattle.lab_views.specs.Variables.{memory_variable}
use Rattle.lab_views.proofs.variables.memory.Given as goal

abbrev pub invariant-loop-offset : goal.invariant-loop-offset
invariant-loop-offset l = l.shown ≡ map (memory_variable l.machine) (range_with_len l.start l.offset)
