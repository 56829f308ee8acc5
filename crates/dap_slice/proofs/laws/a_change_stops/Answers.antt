use Rattle.dap_slice.proofs.SliceLemmas.{change_stops}
use Rattle.dap_slice.proofs.laws.a_change_stops.Goals as goal

pub returns : goal.returns
returns c = change_stops
