use Rattle.lab80_web.proofs.LawLemmas.{shut_run}
use Rattle.lab80_web.proofs.laws.runs_end_after_shutdown.Goals as goal

pub returns : goal.returns
returns c = shut_run
