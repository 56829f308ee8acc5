use Rattle.std.proofs.Common.{◌≡◌}
use Rattle.lab_views.specs.Code.{after_instructions}
use Rattle.lab_core.specs.Board.{Board}
use Rattle.lab_core.specs.Labs.{RepresentsBoard}
use Rattle.dap_board.proofs.far.in_strides.Given as goal

abbrev pub invariant-loop-left : goal.invariant-loop-left
invariant-loop-left l =
    (b : Board) → RepresentsBoard l.fn.lab b
    → after_instructions b.machine l.next l.left ≡ after_instructions b.machine l.fn.address l.fn.count

abbrev pub decreases-loop-left : goal.decreases-loop-left
decreases-loop-left l = l.left
