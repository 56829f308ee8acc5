use Rattle.dap_points.proofs.BoardLemmas as lemmas
use Rattle.dap_points.proofs.laws.verified_is_wanted.Goals as goal

pub returns : goal.returns
returns c = lemmas.verified_is_wanted
