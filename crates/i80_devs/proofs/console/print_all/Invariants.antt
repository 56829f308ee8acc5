use Rattle.std.proofs.Common.{◌≡◌, ◌≤◌, take, vec_len, vec_capacity, length}
use Rattle.std.specs.List.{filter_map}
use Rattle.i80_devs.specs.Console.{written_to_console}
use Rattle.i80_devs.proofs.console.print_all.Given as goal

abbrev pub invariant-loop-operation : goal.invariant-loop-operation
invariant-loop-operation l = record {
  written_so_far : l.text.items ≡ filter_map written_to_console (take l.operation-index l.traffic);
  len : vec_len l.text ≤ l.operation-index;
  room : length l.traffic ≤ vec_capacity l.text;
}
