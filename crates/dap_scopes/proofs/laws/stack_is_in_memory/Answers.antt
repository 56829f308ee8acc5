use Rattle.dap_scopes.proofs.RowLemmas.{word_inside}
use Rattle.dap_scopes.proofs.laws.stack_is_in_memory.Goals as goal

pub returns : goal.returns
returns c = word_inside
