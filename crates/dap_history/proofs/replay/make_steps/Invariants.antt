use Rattle.std.proofs.Common.{◌≤◌, ◌-◌}
use Rattle.lab_core.specs.Board.{Board}
use Rattle.lab_core.specs.Slices.{after_steps}
use Rattle.dap_history.specs.Runs.{RunsDetached, OnlyRunChanges}
use Rattle.dap_history.proofs.replay.make_steps.Given as goal

abbrev pub invariant-loop-made : goal.invariant-loop-made
invariant-loop-made l = record {
  runs : (was now : Board) → RunsDetached was now l.fn.lab → RunsDetached (after_steps l.made was) now l.lab;
  rest : OnlyRunChanges l.fn.lab l.lab;
  within : l.made ≤ l.count;
}

abbrev pub decreases-loop-made : goal.decreases-loop-made
decreases-loop-made l = l.count - l.made
