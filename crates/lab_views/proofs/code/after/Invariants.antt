use Rattle.std.proofs.Common.{◌≡◌, ◌-◌}
use Rattle.lab_views.specs.Code.{after_instructions}
use Rattle.lab_views.proofs.code.after.Given as goal

abbrev pub invariant-loop : goal.invariant-loop
invariant-loop l =
    after_instructions l.machine l.next (l.count - l.counter) ≡ after_instructions l.machine l.fn.address
    l.count
