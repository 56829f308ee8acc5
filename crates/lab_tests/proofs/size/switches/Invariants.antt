use Rattle.std.proofs.Common.{All}
use Rattle.lab_core.specs.Events.{Fits}
use Rattle.lab_tests.proofs.size.switches.Given as goal

-- each event so far is one that the board may be handed
abbrev pub invariant-loop-number : goal.invariant-loop-number
invariant-loop-number l = All Fits l.events.items
