use Rattle.std.proofs.Common.{◌≡◌, take, map}
use Rattle.serde_json.specs.View.{view}
use Rattle.dap_json.specs.Json.{variable_json}
use Rattle.dap_json.proofs.variables.every_variable.Given as goal

abbrev pub invariant-loop-one : goal.invariant-loop-one
invariant-loop-one l = map view l.values.items ≡ map variable_json (take l.one-index l.list)
