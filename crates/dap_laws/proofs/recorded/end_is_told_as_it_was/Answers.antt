use Rattle.dap_laws.proofs.EndLemmas.{end_told}
use Rattle.dap_laws.proofs.recorded.end_is_told_as_it_was.Goals as goal

pub returns : goal.returns
returns c = end_told
