use Rattle.i80_listings_laws.proofs.Relation.{lines_are}
use Rattle.i80_listings_laws.proofs.listing.lines_are.Goals as goal

pub returns : goal.returns
returns c bytes lines = lines_are bytes lines
