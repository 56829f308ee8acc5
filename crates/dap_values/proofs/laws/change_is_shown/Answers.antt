use Rattle.dap_values.proofs.ShownLemmas.{change_is_shown}
use Rattle.dap_values.proofs.laws.change_is_shown.Goals as goal

pub returns : goal.returns
returns c = change_is_shown
