use Rattle.dap_slice.proofs.LogLemmas.{each_counted}
use Rattle.dap_slice.proofs.laws.each_hit_is_counted.Goals as goal

pub returns : goal.returns
returns c = each_counted
