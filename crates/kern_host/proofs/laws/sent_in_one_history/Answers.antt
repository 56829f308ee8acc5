use Rattle.kern_host.proofs.SentLemmas.{sends_in}
use Rattle.kern_host.proofs.laws.sent_in_one_history.Goals as goal

pub returns : goal.returns
returns c target from old new e history w p = sends_in target from old new e w history p
