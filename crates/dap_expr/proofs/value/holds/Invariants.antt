use Rattle.std.proofs.Common.{◌≡◌, drop, false}
use Rattle.lab_core.specs.Board.{Board}
use Rattle.lab_core.specs.Labs.{RepresentsBoard}
use Rattle.dap_expr.specs.Values.{holds_from}
use Rattle.dap_expr.proofs.value.holds.Given as goal

abbrev pub invariant-loop-clause : goal.invariant-loop-clause
invariant-loop-clause l =
    (b : Board) → RepresentsBoard l.fn.lab b
    → holds_from b l.holds (drop l.clause-index l.clauses) ≡ holds_from b false l.clauses
