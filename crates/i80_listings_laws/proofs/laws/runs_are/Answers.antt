use Rattle.i80_listings_laws.proofs.OnlyRuns.{runs_are}
use Rattle.i80_listings_laws.proofs.laws.runs_are.Goals as goal

pub returns : goal.returns
returns c cells runs = runs_are cells runs
