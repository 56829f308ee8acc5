use Rattle.std.proofs.Common.{◌≡◌, length}
use Rattle.lab_core.specs.Board.{Board}
use Rattle.lab_core.specs.Labs.{RepresentsBoard}
use Rattle.dap_slice.specs.Changes.{IsAfterStep}
use Rattle.dap_slice.specs.Counts.{is_hit}
use Rattle.dap_slice.proofs.ChangeLemmas.{Watches}
use Rattle.dap_slice.proofs.counts.is_hit.Given as goal

-- what is left has the watches that are left, and the step is a hit if one of these is hit
abbrev pub invariant-loop-point : goal.invariant-loop-point
invariant-loop-point l =
    (was b : Board) → RepresentsBoard l.lab b → IsAfterStep l.points was b l.marks
    → (l.watches ≡ Watches l.left was b) × (is_hit l.left l.id was b ≡ is_hit l.points l.id was b)

abbrev pub decreases-loop-point : goal.decreases-loop-point
decreases-loop-point l = length l.left
