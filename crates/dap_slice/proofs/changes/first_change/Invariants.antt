use Rattle.std.proofs.Common.{◌≡◌, length}
use Rattle.lab_core.specs.Board.{Board}
use Rattle.lab_core.specs.Labs.{RepresentsBoard}
use Rattle.dap_slice.specs.Changes.{first_change, IsAfterStep}
use Rattle.dap_slice.proofs.ChangeLemmas.{Watches}
use Rattle.dap_slice.proofs.changes.first_change.Given as goal

-- what is left has the watches that are left, and its first change is that of all
abbrev pub invariant-loop-point : goal.invariant-loop-point
invariant-loop-point l =
    (was b : Board) → RepresentsBoard l.lab b → IsAfterStep l.points was b l.marks
    → (l.watches ≡ Watches l.left was b) × (first_change l.left was b ≡ first_change l.points was b)

abbrev pub decreases-loop-point : goal.decreases-loop-point
decreases-loop-point l = length l.left
