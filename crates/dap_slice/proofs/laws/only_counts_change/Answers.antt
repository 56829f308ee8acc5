use Rattle.dap_slice.proofs.CountLemmas.{without_after}
use Rattle.dap_slice.proofs.laws.only_counts_change.Goals as goal

pub returns : goal.returns
returns c = without_after
