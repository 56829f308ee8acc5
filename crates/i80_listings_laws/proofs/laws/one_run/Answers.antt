use Rattle.i80_listings_laws.proofs.Texts.{one_run}
use Rattle.i80_listings_laws.proofs.laws.one_run.Goals as goal

pub returns : goal.returns
returns c before after bytes = one_run before after bytes
