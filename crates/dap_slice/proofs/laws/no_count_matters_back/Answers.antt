use Rattle.dap_slice.proofs.CountLemmas.{back_without}
use Rattle.dap_slice.proofs.laws.no_count_matters_back.Goals as goal

pub returns : goal.returns
returns c = back_without
