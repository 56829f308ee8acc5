use Rattle.std.proofs.Common.{◌≡◌}
use Rattle.kern_desk_tests.proofs.players.Player.play.Given as goal

abbrev pub invariant-loop-turn : goal.invariant-loop-turn
invariant-loop-turn g l = l.self.pass.turnstile ≡ l.desk
