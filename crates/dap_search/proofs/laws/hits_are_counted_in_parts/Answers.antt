use Rattle.dap_search.proofs.RecountLemmas.{in_parts}
use Rattle.dap_search.proofs.laws.hits_are_counted_in_parts.Goals as goal

pub returns : goal.returns
returns c = in_parts
