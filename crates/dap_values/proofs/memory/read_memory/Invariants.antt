use Rattle.std.proofs.Common.{◌≡◌, map}
use Rattle.std.specs.List.{range_with_len}
use Rattle.i80_exec.specs.State.{byte_at}
use Rattle.lab_core.specs.Board.{Board}
use Rattle.lab_core.specs.Labs.{RepresentsBoard}
use Rattle.dap_values.proofs.memory.read_memory.Given as goal

abbrev pub invariant-loop-offset : goal.invariant-loop-offset
invariant-loop-offset l =
    (b : Board) → RepresentsBoard l.fn.lab b
    → l.bytes ≡ map (byte_at b.machine) (range_with_len l.address l.offset)
