use Rattle.i80_listings_laws.proofs.Assembled.{lines_are_few}
use Rattle.i80_listings_laws.proofs.laws.lines_are_few.Goals as goal

pub returns : goal.returns
returns c cells start are is_start within either = lines_are_few cells start are is_start within either
