use Rattle.std.proofs.Common.{◌≡◌}
use Rattle.lab_turn_tests.proofs.tests.thousand.Given as goal

abbrev pub invariant-loop-mark : goal.invariant-loop-mark
invariant-loop-mark g l = l.pass.turnstile ≡ l.desk
