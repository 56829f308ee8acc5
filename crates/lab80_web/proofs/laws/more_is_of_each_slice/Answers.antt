use Rattle.lab80_web.proofs.LawLemmas.{run_is_more, run_is_whole}
use Rattle.lab80_web.proofs.laws.more_is_of_each_slice.Goals as goal

pub returns-clause-exactly : goal.returns-clause-exactly
returns-clause-exactly c = run_is_more

pub returns-clause-count : goal.returns-clause-count
returns-clause-count c = run_is_whole
