use Rattle.dap_slice.proofs.TallyLemmas.{hits_taken}
use Rattle.dap_slice.proofs.laws.hits_are_taken_away.Goals as goal

pub returns : goal.returns
returns c = hits_taken
