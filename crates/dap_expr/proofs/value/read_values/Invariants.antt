use Rattle.std.proofs.Common.{◌≡◌, drop}
use Rattle.lab_core.specs.Board.{Board}
use Rattle.lab_core.specs.Labs.{RepresentsBoard}
use Rattle.dap_expr.specs.Values.{values_from, read_values}
use Rattle.dap_expr.proofs.value.read_values.Given as goal

abbrev pub invariant-loop-number : goal.invariant-loop-number
invariant-loop-number l =
    (b : Board) → RepresentsBoard l.fn.lab b
    → values_from b l.number l.values (drop l.number l.reads) ≡ read_values b l.reads
