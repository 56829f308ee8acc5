use Rattle.dap_laws.proofs.SessionStopLemmas.{stops_told}
use Rattle.dap_laws.proofs.session.stops_are_told.Goals as goal

pub returns : goal.returns
returns c = stops_told
