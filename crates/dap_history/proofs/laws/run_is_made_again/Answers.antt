use Rattle.dap_history.proofs.RunLemmas.{made_again}
use Rattle.dap_history.proofs.laws.run_is_made_again.Goals as goal

pub returns : goal.returns
returns c = made_again
