use Rattle.dap_slice.proofs.SliceLemmas.{none_passed}
use Rattle.dap_slice.proofs.laws.none_is_passed.Goals as goal

pub returns : goal.returns
returns c = none_passed
