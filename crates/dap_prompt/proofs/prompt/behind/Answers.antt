use Rattle.dap_prompt.proofs.PromptLemmas.{behind_some, behind_none}
use Rattle.dap_prompt.proofs.prompt.behind.Goals as goal

pub returns-in-Some : goal.returns-in-Some
returns-in-Some c =
    let found = c.in-Some.ensures.cases in
    behind_some c.args.beginning.now c.args.text.now c.in-Some.rest.now found.0 found.1.0 found.1.1 found.2

pub returns-in-None : goal.returns-in-None
returns-in-None c = behind_none c.args.beginning.now c.args.text.now c.in-None.ensures.cases
