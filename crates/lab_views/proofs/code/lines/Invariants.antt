use Rattle.std.proofs.Common.{◌≡◌, ◌-◌, ◌++◌}
use Rattle.lab_views.specs.Code.{lines_from}
use Rattle.lab_views.proofs.code.lines.Given as goal

abbrev pub invariant-loop : goal.invariant-loop
invariant-loop l =
    l.lines ++ lines_from l.machine l.next (l.count - l.counter) ≡ lines_from l.machine l.fn.address l.count
