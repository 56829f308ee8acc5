use Rattle.dap_laws.proofs.SessionEndLemmas.{end_told_so}
use Rattle.dap_laws.proofs.session.end_is_told_as_it_was.Goals as goal

pub returns : goal.returns
returns c = end_told_so
