use Rattle.std.proofs.Common.{◌≡◌, length}
use Rattle.lab_core.specs.Board.{Board}
use Rattle.dap_history.specs.Runs.{at_from, RunsDetached, OnlyRunChanges}
use Rattle.dap_history.proofs.replay.replay.Given as goal

abbrev pub invariant-loop-next : goal.invariant-loop-next
invariant-loop-next l = record {
  runs : (was now : Board) → RunsDetached was now l.fn.lab → (there : Board) × RunsDetached there now l.lab
      × (at_from l.from was l.log l.to ≡ at_from l.at there l.rest l.to);
  rest : OnlyRunChanges l.fn.lab l.lab;
}

abbrev pub decreases-loop-next : goal.decreases-loop-next
decreases-loop-next l = length l.rest
