use Rattle.dap_laws.proofs.HoldLemmas.{hover_leaves}
use Rattle.dap_laws.proofs.recorded.hovers_leave_all.Goals as goal

pub returns : goal.returns
returns c = hover_leaves
