use Rattle.std.proofs.Common.{◌≡◌, map}
use Rattle.std.specs.List.{range_with_len}
use Rattle.lab_core.specs.Board.{Board}
use Rattle.lab_core.specs.Labs.{RepresentsBoard}
use Rattle.dap_scopes.specs.Rows.{memory_row}
use Rattle.dap_scopes.proofs.rows.memory.Given as goal

abbrev pub invariant-loop-offset : goal.invariant-loop-offset
invariant-loop-offset l =
    (b : Board) → RepresentsBoard l.fn.lab b
    → l.rows ≡ map (memory_row l.format b.machine) (range_with_len l.start l.offset)
