use Rattle.dap_slice.proofs.SliceLemmas.{unmet_plain}
use Rattle.dap_slice.proofs.laws.unmet_is_plain.Goals as goal

pub returns : goal.returns
returns c = unmet_plain
