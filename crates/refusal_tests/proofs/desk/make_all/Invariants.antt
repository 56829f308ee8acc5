use Rattle.std.proofs.Common.{◌≡◌, All}
use Rattle.refusal_tests.proofs.desk.make_all.Given as goal

-- each pass is still this desk's
abbrev pub invariant-loop-place : goal.invariant-loop-place
invariant-loop-place g l = All (λ p. p.turnstile ≡ l.desk) l.passes
