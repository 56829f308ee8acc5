use Rattle.std.proofs.Common.{◌≡◌, take, map}
use Rattle.serde_json.specs.View.{view}
use Rattle.dap_json.proofs.told.told_list.Given as goal

abbrev pub invariant-loop-item : goal.invariant-loop-item
invariant-loop-item g l =
    map view l.values.items ≡ map (g.T.ToldJson.json l.numbering) (take l.item-index l.items)
