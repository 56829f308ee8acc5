use Rattle.dap_values.proofs.ShownLemmas.{value_is_shown}
use Rattle.dap_values.proofs.laws.value_is_shown.Goals as goal

pub returns : goal.returns
returns c = value_is_shown
