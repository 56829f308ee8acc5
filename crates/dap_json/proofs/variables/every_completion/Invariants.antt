use Rattle.std.proofs.Common.{◌≡◌, take, map}
use Rattle.serde_json.specs.View.{view}
use Rattle.dap_json.specs.Json.{completion_json}
use Rattle.dap_json.proofs.variables.every_completion.Given as goal

abbrev pub invariant-loop-item : goal.invariant-loop-item
invariant-loop-item l =
    map view l.values.items ≡ map (completion_json l.start l.length) (take l.item-index l.items)
