use Rattle.std.proofs.Common.{◌≡◌, All}
use Rattle.kern_desk_tests.proofs.races.passes_of.Given as goal

abbrev pub invariant-loop : goal.invariant-loop
invariant-loop g l =
    All (λ p. p.pass.turnstile ≡ l.desk) l.players.items
    × All (λ p. p.turnstile ≡ l.desk) l.passes.items
