use Rattle.std.proofs.Common.{◌≡◌, take, map}
use Rattle.serde_json.specs.View.{view}
use Rattle.dap_json.specs.Sources.{source_json}
use Rattle.dap_json.proofs.sources.every_source.Given as goal

abbrev pub invariant-loop-path : goal.invariant-loop-path
invariant-loop-path l = map view l.values.items ≡ map source_json (take l.path-index l.paths)
