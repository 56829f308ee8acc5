use Rattle.dap_laws.proofs.GoalLemmas.{search_met}
use Rattle.dap_laws.proofs.recorded.search_meets.Goals as goal

pub returns : goal.returns
returns c = search_met
