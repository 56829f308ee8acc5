use Rattle.std.proofs.Common.{◌≡◌, map, take, length}
use Rattle.lab_core.specs.Board.{Board}
use Rattle.lab_core.specs.Labs.{RepresentsBoard}
use Rattle.dap_breakpoints.specs.Instructions.{checked_instruction}
use Rattle.dap_breakpoints.proofs.instructions.all_checked.Given as goal

abbrev pub invariant-loop-breakpoint : goal.invariant-loop-breakpoint
invariant-loop-breakpoint l = record {
  checked : (b : Board) → RepresentsBoard l.fn.lab b
      → l.all ≡ map (checked_instruction b) (take l.breakpoint-index l.breakpoints);
  count : length l.all ≡ l.breakpoint-index;
}
