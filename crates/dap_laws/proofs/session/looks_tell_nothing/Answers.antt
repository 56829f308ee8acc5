use Rattle.dap_session.proofs.ChangeLemmas.{look_turn}
use Rattle.dap_laws.proofs.session.looks_tell_nothing.Goals as goal

pub returns : goal.returns
returns c = look_turn
