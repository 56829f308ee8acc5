use Rattle.dap_scopes.proofs.SymbolLemmas.{all_have_part, few_entries}
use Rattle.dap_scopes.proofs.laws.symbols_have_the_part.Goals as goal

pub returns-clause-part : goal.returns-clause-part
returns-clause-part c = all_have_part

pub returns-clause-few : goal.returns-clause-few
returns-clause-few c = few_entries
