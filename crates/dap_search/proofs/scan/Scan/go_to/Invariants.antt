use Rattle.std.proofs.Common.{◌≡◌, ◌≤◌, ◌-◌, ℕ}
use Rattle.lab_core.specs.Board.{Board}
use Rattle.dap_history.specs.Logs.{later_than}
use Rattle.dap_history.specs.Runs.{OnlyRunChanges}
use Rattle.dap_search.specs.Goals.{Target}
use Rattle.dap_search.specs.Scans.{IsScanOf, is_recount}
use Rattle.dap_search.proofs.scan.Scan.go_to.Given as goal

abbrev pub invariant-loop-self : goal.invariant-loop-self
invariant-loop-self l = record {
  rest : l.rest ≡ later_than l.self.at l.log;
  within : l.self.at ≤ l.to;
  scans : (start now : Board) (target : Target) (low : ℕ) → target.points ≡ l.points
      → IsScanOf start l.log now target low l.fn.self l.fn.lab
      → IsScanOf start l.log now target low l.self l.lab;
  kind : is_recount l.self.phase ≡ is_recount l.fn.self.phase;
  changes : OnlyRunChanges l.fn.lab l.lab;
}

abbrev pub decreases-loop-self : goal.decreases-loop-self
decreases-loop-self l = l.to - l.self.at
