use Rattle.std.proofs.Common.{◌≡◌, ◌≤◌, ◌+◌, length, vec_len, vec_capacity}
use Rattle.std.specs.List.{fold}
use Rattle.lab_core.specs.Board.{Board}
use Rattle.lab_core.specs.Labs.{RepresentsBoard}
use Rattle.dap_slice.specs.Stops.{stops_behind, with_id_if, stop_ids}
use Rattle.dap_slice.proofs.ChangeLemmas.{Watches}
use Rattle.dap_slice.proofs.stops.stop_ids.Given as goal

-- what is left has the watches that are left, and adds its numbers to those that are there
abbrev pub invariant-loop-point : goal.invariant-loop-point
invariant-loop-point l = record {
  room : vec_len l.ids + length l.left ≤ vec_capacity l.ids;
  told : (was b : Board) → RepresentsBoard l.lab b → l.seen ≡ Watches l.points was b
      → (l.watches ≡ Watches l.left was b)
      × (fold (with_id_if (stops_behind was b)) l.ids.items l.left ≡ stop_ids l.points was b);
}

abbrev pub decreases-loop-point : goal.decreases-loop-point
decreases-loop-point l = length l.left
