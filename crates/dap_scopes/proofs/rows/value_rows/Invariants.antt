use Rattle.std.proofs.Common.{◌≡◌, map, take}
use Rattle.dap_scopes.specs.Rows.{value_row}
use Rattle.dap_scopes.proofs.rows.value_rows.Given as goal

abbrev pub invariant-loop-name : goal.invariant-loop-name
invariant-loop-name l = l.rows ≡ map (λ p. value_row l.format p.0.now p.1) (take l.name-index l.parts)
