use Rattle.dap_laws.proofs.TellLemmas.{written_played}
use Rattle.dap_laws.proofs.recorded.output_is_told_once.Goals as goal

pub returns : goal.returns
returns c = written_played
