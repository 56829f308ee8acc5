use Rattle.dap_laws.proofs.HoldLemmas.{watch_leaves}
use Rattle.dap_laws.proofs.recorded.watches_leave_all.Goals as goal

pub returns : goal.returns
returns c = watch_leaves
