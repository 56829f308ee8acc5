use Rattle.dap_session.proofs.ChangeLemmas.{told_turn}
use Rattle.dap_laws.proofs.session.changes_are_told.Goals as goal

pub returns : goal.returns
returns c = told_turn
