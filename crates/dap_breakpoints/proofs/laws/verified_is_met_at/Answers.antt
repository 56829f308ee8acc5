use Rattle.dap_breakpoints.proofs.BreakLemmas as lemmas
use Rattle.dap_breakpoints.proofs.laws.verified_is_met_at.Goals as goal

pub returns-clause-verified : goal.returns-clause-verified
returns-clause-verified c = lemmas.verified_is_met

pub returns-clause-others : goal.returns-clause-others
returns-clause-others c = lemmas.others_are_not
