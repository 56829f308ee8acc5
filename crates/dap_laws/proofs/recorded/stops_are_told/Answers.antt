use Rattle.dap_laws.proofs.StopLemmas.{stops_told}
use Rattle.dap_laws.proofs.recorded.stops_are_told.Goals as goal

pub returns : goal.returns
returns c = stops_told
