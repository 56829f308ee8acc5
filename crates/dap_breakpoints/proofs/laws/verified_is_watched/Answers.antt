use Rattle.dap_breakpoints.proofs.WatchLemmas as lemmas
use Rattle.dap_breakpoints.proofs.laws.verified_is_watched.Goals as goal

pub returns-clause-verified : goal.returns-clause-verified
returns-clause-verified c = lemmas.verified_is_watched

pub returns-clause-others : goal.returns-clause-others
returns-clause-others c = lemmas.others_are_not
