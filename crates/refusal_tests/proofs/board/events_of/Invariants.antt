use Rattle.std.proofs.Common.{All}
use Rattle.lab_core.specs.Events.{Fits}
use Rattle.refusal_tests.proofs.board.events_of.Given as goal

-- each event so far fits
abbrev pub invariant-loop-step : goal.invariant-loop-step
invariant-loop-step l = All Fits l.events.items
