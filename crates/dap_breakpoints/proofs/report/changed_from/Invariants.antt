use Rattle.std.proofs.Common.{◌≡◌, ◌≤◌, ◌+◌, ◌++◌, length}
use Rattle.lab_core.specs.Board.{Board}
use Rattle.lab_core.specs.Labs.{RepresentsBoard}
use Rattle.dap_breakpoints.specs.Reports.{changed_from}
use Rattle.dap_breakpoints.proofs.report.changed_from.Given as goal

-- those so far, and those of the sources that are left
abbrev pub invariant-loop-source : goal.invariant-loop-source
invariant-loop-source l = record {
  told : (o b : Board) → RepresentsBoard l.old o → RepresentsBoard l.loaded.lab b
      → l.all ++ changed_from l.before o l.loaded.program b l.number l.left
      ≡ changed_from l.before o l.loaded.program b 1 l.sources;
  few : l.number + length l.left ≤ 1025;
}

abbrev pub decreases-loop-source : goal.decreases-loop-source
decreases-loop-source l = length l.left
