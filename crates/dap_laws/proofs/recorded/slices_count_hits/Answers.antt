use Rattle.dap_laws.proofs.CountLemmas.{slice_counts}
use Rattle.dap_laws.proofs.recorded.slices_count_hits.Goals as goal

pub returns : goal.returns
returns c = slice_counts
