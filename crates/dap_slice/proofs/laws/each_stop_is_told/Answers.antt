use Rattle.dap_slice.proofs.StopLemmas.{each_told}
use Rattle.dap_slice.proofs.laws.each_stop_is_told.Goals as goal

pub returns : goal.returns
returns c = each_told
