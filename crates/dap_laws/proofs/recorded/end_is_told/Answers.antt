use Rattle.dap_laws.proofs.StopLemmas.{ends_told_so}
use Rattle.dap_laws.proofs.recorded.end_is_told.Goals as goal

pub returns : goal.returns
returns c = ends_told_so
