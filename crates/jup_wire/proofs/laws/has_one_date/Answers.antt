use Rattle.jup_wire.proofs.DateLemmas.{one_date}
use Rattle.jup_wire.proofs.laws.has_one_date.Goals as goal

pub returns : goal.returns
returns c = one_date
