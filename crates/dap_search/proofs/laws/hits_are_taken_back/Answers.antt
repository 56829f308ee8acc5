use Rattle.dap_search.proofs.RecountLemmas.{taken_back}
use Rattle.dap_search.proofs.laws.hits_are_taken_back.Goals as goal

pub returns : goal.returns
returns c = taken_back
