use Rattle.dap_laws.proofs.HoldLemmas.{looks_all}
use Rattle.dap_laws.proofs.recorded.looks_leave_all.Goals as goal

pub returns : goal.returns
returns c = looks_all
