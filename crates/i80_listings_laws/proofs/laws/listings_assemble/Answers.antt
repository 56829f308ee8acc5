use Rattle.i80_listings_laws.proofs.Assembled.{listings_assemble}
use Rattle.i80_listings_laws.proofs.laws.listings_assemble.Goals as goal

pub returns : goal.returns
returns c kept cells start are is_start within few =
    listings_assemble kept cells start are is_start within few
