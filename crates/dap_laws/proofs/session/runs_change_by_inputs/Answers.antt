use Rattle.dap_session.proofs.InputLemmas.{made_turn}
use Rattle.dap_laws.proofs.session.runs_change_by_inputs.Goals as goal

pub returns : goal.returns
returns c = made_turn
