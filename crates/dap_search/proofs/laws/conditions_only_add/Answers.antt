use Rattle.dap_search.proofs.FindLemmas.{conditions_add}
use Rattle.dap_search.proofs.laws.conditions_only_add.Goals as goal

pub returns : goal.returns
returns c = conditions_add
