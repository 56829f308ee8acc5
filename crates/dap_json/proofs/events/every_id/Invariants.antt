use Rattle.std.proofs.Common.{◌≡◌, take, map}
use Rattle.serde_json.specs.View.{view}
use Rattle.dap_answers.specs.Json.{whole_number}
use Rattle.dap_json.proofs.events.every_id.Given as goal

abbrev pub invariant-loop-id : goal.invariant-loop-id
invariant-loop-id l = map view l.values.items ≡ map whole_number (take l.id-index l.ids)
