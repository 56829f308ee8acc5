use Rattle.std.proofs.Common.{◌≡◌, true, false, sym, ◌∙◌}
use Rattle.dap_debugger.proofs.JsonLemmas.{json_of-utf8, json_of-refused}
use Rattle.dap_debugger.proofs.requests.read_json.Goals as goal

pub returns-in-Ok : goal.returns-in-Ok
returns-in-Ok c = sym (json_of-utf8 c.args.body.now c.in-Ok.ensures.ok.0 ∙ c.in-Ok.ensures.ok.1)

pub returns-in-Err-2 : goal.returns-in-Err-2
returns-in-Err-2 c =
    sym (json_of-refused c.args.body.now
    (c.in-Err.ensures.err (λ memory. let contrary : false ≡ true = c.if-is_memory.ensures.1 memory in cc)))
