use Rattle.dap_laws.proofs.TellLemmas.{answered_played}
use Rattle.dap_laws.proofs.recorded.requests_are_answered.Goals as goal

pub returns : goal.returns
returns c = answered_played
