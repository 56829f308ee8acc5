use Rattle.std.proofs.Common.{◌≡◌, ◌≤◌, ◌+◌, length, vec_len, vec_capacity}
use Rattle.std.specs.List.{fold}
use Rattle.lab_core.specs.Board.{Board}
use Rattle.lab_core.specs.Labs.{RepresentsBoard}
use Rattle.dap_slice.specs.Stops.{stops_going_back, with_id_if, back_ids}
use Rattle.dap_slice.proofs.conditions.ConditionalBreakpoints.back_ids.Given as goal

-- what is left adds its numbers to those that are there
abbrev pub invariant-loop-point : goal.invariant-loop-point
invariant-loop-point l = record {
  room : vec_len l.ids + length l.left ≤ vec_capacity l.ids;
  told : (b : Board) → RepresentsBoard l.lab b
      → fold (with_id_if (stops_going_back b)) l.ids.items l.left ≡ back_ids l.self b;
}

abbrev pub decreases-loop-point : goal.decreases-loop-point
decreases-loop-point l = length l.left
