use Rattle.dap_laws.proofs.SessionTellLemmas.{kept_look}
use Rattle.dap_laws.proofs.session.looks_keep_board.Goals as goal

pub returns : goal.returns
returns c = kept_look
