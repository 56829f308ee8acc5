use Rattle.dap_slice.proofs.LogLemmas.{each_told}
use Rattle.dap_slice.proofs.laws.each_step_is_told.Goals as goal

pub returns : goal.returns
returns c = each_told
