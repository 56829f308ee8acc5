use Rattle.std.proofs.Common.{◌≡◌}
use Rattle.lab_turn.specs.History.{Sees}
use Rattle.kern_host.proofs.leaving.leave.Given as goal

abbrev pub invariant-loop : goal.invariant-loop
invariant-loop g l = record {
  own : l.pass.turnstile ≡ l.desk;
  seat : l.pass.seat ≡ l.fn.pass.seat;
  seen : Sees l.fn.pass l.pass;
}
