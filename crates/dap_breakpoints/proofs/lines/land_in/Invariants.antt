use Rattle.std.proofs.Common.{◌≡◌, take, map, length}
use Rattle.lab_core.specs.Board.{Board}
use Rattle.lab_core.specs.Labs.{RepresentsBoard}
use Rattle.dap_breakpoints.specs.Lines.{landed_in}
use Rattle.dap_breakpoints.proofs.lines.land_in.Given as goal

abbrev pub invariant-loop-breakpoint : goal.invariant-loop-breakpoint
invariant-loop-breakpoint l = record {
  landed : (b : Board) → RepresentsBoard l.lab b
      → l.landed ≡ map (landed_in b l.lines.keys) (take l.breakpoint-index l.asked);
  count : length l.landed ≡ l.breakpoint-index;
}
