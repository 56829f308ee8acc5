use Rattle.std.proofs.Common.{◌≡◌, ◌++◌, map, take, drop}
use Rattle.lab_core.specs.Marks.{watch_of}
use Rattle.lab_core.proofs.marks.keep_values.Given as goal

abbrev pub invariant-loop-watch : goal.invariant-loop-watch
invariant-loop-watch l =
    l.watches ≡ map (watch_of l.machine l.machine) (take l.watch-index l.fn.watches)
    ++ drop l.watch-index l.fn.watches
