use Rattle.dap_debugger.proofs.LaunchLemmas.{text_found, none_found}
use Rattle.dap_debugger.proofs.launch_text.text_in.Goals as goal

pub returns-in-Ok : goal.returns-in-Ok
returns-in-Ok c = text_found c.in-Ok.text c.args.bytes c.from.result c.in-Ok.ensures.ok c.from.ensures

pub returns : goal.returns
returns c = none_found c.args.bytes.items (λ text. c.in-Err.ensures.succeeds text)
