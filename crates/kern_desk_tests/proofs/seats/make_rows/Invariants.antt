use Rattle.std.proofs.Common.{◌≡◌, All}
use Rattle.kern_desk_tests.proofs.seats.make_rows.Given as goal

abbrev pub invariant-loop-place : goal.invariant-loop-place
invariant-loop-place g l = All (λ p. p.turnstile ≡ l.desk) l.passes
