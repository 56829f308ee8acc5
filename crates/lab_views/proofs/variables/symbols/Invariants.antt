use Rattle.std.proofs.Common.{◌≡◌, ◌-◌, take, drop}
use Rattle.lab_views.specs.Variables.{symbol_variables}
use Rattle.lab_views.proofs.variables.symbols.Given as goal

abbrev pub invariant-loop-index : goal.invariant-loop-index
invariant-loop-index l = l.shown ≡ take (l.index - l.start) (drop l.start (symbol_variables l.symbols))
