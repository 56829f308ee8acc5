use Rattle.dap_slice.proofs.SliceLemmas.{change_told}
use Rattle.dap_slice.proofs.laws.a_change_is_told.Goals as goal

pub returns : goal.returns
returns c = change_told
