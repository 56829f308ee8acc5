use Rattle.dap_search.proofs.RecountLemmas.{by_steps}
use Rattle.dap_search.proofs.laws.slices_count_the_same.Goals as goal

pub returns : goal.returns
returns c = by_steps
