use Rattle.std.proofs.Common.{◌≡◌, ◌-◌, List, length}
use Rattle.lab_core.specs.Board.{Board}
use Rattle.lab_core.specs.Labs.{RepresentsBoard}
use Rattle.dap_slice.specs.declared.conditions.ConditionalBreakpoint.{ConditionalBreakpoint}
use Rattle.dap_slice.specs.Changes.{IsAfterStep}
use Rattle.dap_slice.specs.Tallies.{hits_in, IsTallyOf}
use Rattle.dap_slice.proofs.TallyLemmas.{so_far}
use Rattle.dap_slice.proofs.tally.count_step.Given as goal

-- those before are counted
abbrev pub invariant-loop-index : goal.invariant-loop-index
invariant-loop-index l =
    (was b : Board) (all : List ConditionalBreakpoint) → RepresentsBoard l.lab b
    → IsAfterStep l.points was b l.marks → IsTallyOf l.points all l.fn.hits
    → l.hits ≡ hits_in (so_far all was b l.index)

abbrev pub decreases-loop-index : goal.decreases-loop-index
decreases-loop-index l = length l.initial.hits - l.index
