use Rattle.dap_laws.proofs.SessionTellLemmas.{shown_played}
use Rattle.dap_laws.proofs.session.console_is_whole.Goals as goal

pub returns : goal.returns
returns c = shown_played
