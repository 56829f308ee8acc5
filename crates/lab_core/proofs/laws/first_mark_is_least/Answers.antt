use Rattle.lab_core.proofs.MarkLemmas.{least_mark}
use Rattle.lab_core.proofs.laws.first_mark_is_least.Goals as goal

pub returns : goal.returns
returns c = least_mark
