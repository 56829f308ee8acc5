use Rattle.std.proofs.Common.{◌≡◌, All}
use Rattle.kern_desk_tests.proofs.races.make_calls.Given as goal

abbrev pub invariant-loop-seat : goal.invariant-loop-seat
invariant-loop-seat g l = All (λ p. p.pass.turnstile ≡ l.desk) l.players
