use Rattle.kern_host.proofs.AskedLemmas.{asks_in}
use Rattle.kern_host.proofs.laws.asked_in_one_history.Goals as goal

pub returns : goal.returns
returns c source peer old new e history r p = asks_in source peer old new e r history p
