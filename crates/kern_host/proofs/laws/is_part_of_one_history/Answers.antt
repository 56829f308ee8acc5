use Rattle.kern_host.proofs.AskedLemmas.{is_part}
use Rattle.kern_host.proofs.laws.is_part_of_one_history.Goals as goal

pub returns : goal.returns
returns c turnstile passes pass history h m own = is_part turnstile passes pass history h m own
