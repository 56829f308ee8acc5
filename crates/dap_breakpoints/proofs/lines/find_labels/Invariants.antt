use Rattle.std.proofs.Common.{◌≡◌, map, take, length}
use Rattle.lab_core.specs.Board.{Board}
use Rattle.lab_core.specs.Labs.{RepresentsBoard}
use Rattle.dap_breakpoints.specs.Lines.{found_label}
use Rattle.dap_breakpoints.proofs.lines.find_labels.Given as goal

abbrev pub invariant-loop-function : goal.invariant-loop-function
invariant-loop-function l = record {
  found : (b : Board) → RepresentsBoard l.fn.lab b
      → l.labels ≡ map (found_label b) (take l.function-index l.functions);
  count : length l.labels ≡ l.function-index;
}
