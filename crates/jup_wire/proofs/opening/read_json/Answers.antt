use Rattle.std.proofs.Common.{◌≡◌, true, false, ap, sym, ◌∙◌}
use Rattle.jup_wire.specs.Json.{json_of}
use Rattle.jup_wire.proofs.JsonLemmas.{json_of-utf8, json_of-refused}
use Rattle.jup_wire.proofs.opening.read_json.Goals as goal

pub returns-in-Ok-clause-value : goal.returns-in-Ok-clause-value
returns-in-Ok-clause-value c =
    ap json_of (sym c.as_slice.ensures) ∙ json_of-utf8 _ c.in-Ok.ensures.ok.0 ∙ c.in-Ok.ensures.ok.1

pub returns-in-Err-2-clause-fault : goal.returns-in-Err-2-clause-fault
returns-in-Err-2-clause-fault c =
    ap json_of (sym c.as_slice.ensures)
    ∙ json_of-refused _ (c.in-Err.ensures.err (λ memory. let contrary : false ≡ true =
    c.if-is_memory.ensures.1 memory in cc))
