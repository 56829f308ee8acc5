use Rattle.i80_listings_laws.proofs.Layouts.{listing_assembles}
use Rattle.i80_listings_laws.proofs.listing.listing_assembles.Goals as goal

pub returns : goal.returns
returns c kept address bytes are within = listing_assembles kept address bytes are within
