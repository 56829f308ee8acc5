use Rattle.dap_laws.proofs.SessionTellLemmas.{answered_played}
use Rattle.dap_laws.proofs.session.requests_are_answered.Goals as goal

pub returns : goal.returns
returns c = answered_played
