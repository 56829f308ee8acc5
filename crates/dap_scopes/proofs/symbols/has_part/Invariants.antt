use Rattle.std.proofs.Common.{◌≡◌, drop}
use Rattle.dap_scopes.specs.Symbols.{has_part}
use Rattle.dap_scopes.proofs.symbols.has_part.Given as goal

abbrev pub invariant-loop-start : goal.invariant-loop-start
invariant-loop-start l = has_part (drop l.start l.name) l.part ≡ has_part l.name l.part
