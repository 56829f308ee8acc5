use Rattle.dap_log.proofs.LawLemmas.{plain_is_itself}
use Rattle.dap_log.proofs.laws.plain_is_itself.Goals as goal

pub returns : goal.returns
returns c = plain_is_itself
