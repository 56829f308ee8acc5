use Rattle.std.proofs.Common.{◌≡◌, ◌++◌, ◌-◌, length, map, take, drop}
use Rattle.lab_core.specs.Board.{Board}
use Rattle.lab_core.specs.Labs.{RepresentsBoard}
use Rattle.dap_slice.specs.Changes.{IsAfterStep}
use Rattle.dap_slice.proofs.CountLemmas.{counted}
use Rattle.dap_slice.proofs.counts.count_step.Given as goal

-- those before are counted, by the breakpoints of the whole list
abbrev pub invariant-loop-index : goal.invariant-loop-index
invariant-loop-index l =
    (was b : Board) → RepresentsBoard l.lab b → IsAfterStep l.fn.points was b l.marks
    → l.points ≡ map (counted l.fn.points was b) (take l.index l.fn.points) ++ drop l.index l.fn.points

abbrev pub decreases-loop-index : goal.decreases-loop-index
decreases-loop-index l = length l.initial.points - l.index
