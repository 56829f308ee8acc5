use Rattle.dap_slice.proofs.SliceLemmas.{end_within}
use Rattle.dap_slice.proofs.laws.end_is_within.Goals as goal

pub returns : goal.returns
returns c = end_within
