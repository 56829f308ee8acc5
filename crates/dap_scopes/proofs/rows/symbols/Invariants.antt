use Rattle.std.proofs.Common.{◌≡◌, ◌-◌, map, take, drop}
use Rattle.dap_scopes.specs.Rows.{symbol_row}
use Rattle.dap_scopes.proofs.rows.symbols.Given as goal

abbrev pub invariant-loop-index : goal.invariant-loop-index
invariant-loop-index l =
    l.rows ≡ map (symbol_row l.format) (take (l.index - l.start) (drop l.start l.symbols))
