use Rattle.std.proofs.Common.{◌≡◌, ◌++◌, map, take, drop}
use Rattle.lab_core.specs.Marks.{with_after}
use Rattle.lab_core.proofs.marks.keep_values_after.Given as goal

abbrev pub invariant-loop-watch : goal.invariant-loop-watch
invariant-loop-watch l =
    l.watches ≡ map (with_after l.machine) (take l.watch-index l.fn.watches)
    ++ drop l.watch-index l.fn.watches
