use Rattle.std.proofs.Common.{◌≡◌, false, take}
use Rattle.std.specs.List.{list_any}
use Rattle.lab_core.specs.Board.{Board}
use Rattle.lab_core.specs.Labs.{RepresentsBoard}
use Rattle.dap_slice.specs.Conditions.{stops_back}
use Rattle.dap_slice.proofs.conditions.ConditionalBreakpoints.is_any_met_back.Given as goal

abbrev pub invariant-loop-point : goal.invariant-loop-point
invariant-loop-point l =
    (b : Board) → RepresentsBoard l.lab b → list_any (stops_back b) (take l.point-index l.point-items) ≡ false
