use Rattle.dap_slice.proofs.SliceLemmas.{none_plain}
use Rattle.dap_slice.proofs.laws.none_is_plain.Goals as goal

pub returns : goal.returns
returns c = none_plain
