use Rattle.dap_session.proofs.RefusalLemmas.{refused_turn}
use Rattle.dap_laws.proofs.session.refusals_leave_all.Goals as goal

pub returns : goal.returns
returns c = refused_turn
