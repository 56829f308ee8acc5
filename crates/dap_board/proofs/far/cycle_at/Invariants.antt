use Rattle.std.proofs.Common.{◌≡◌}
use Rattle.lab_views.specs.Code.{after_instructions}
use Rattle.lab_core.specs.Board.{Board}
use Rattle.lab_core.specs.Labs.{RepresentsBoard}
use Rattle.dap_board.proofs.far.cycle_at.Given as goal

abbrev pub invariant-loop-passed : goal.invariant-loop-passed
invariant-loop-passed l =
    (b : Board) → RepresentsBoard l.fn.lab b → l.next ≡ after_instructions b.machine l.fn.address l.passed
