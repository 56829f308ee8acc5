use Rattle.dap_laws.proofs.HoldLemmas.{refused_all}
use Rattle.dap_laws.proofs.recorded.refusals_leave_all.Goals as goal

pub returns : goal.returns
returns c = refused_all
