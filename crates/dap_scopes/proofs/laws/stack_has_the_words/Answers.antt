use Rattle.dap_scopes.proofs.RowLemmas.{stack_count, stack_at}
use Rattle.dap_scopes.proofs.laws.stack_has_the_words.Goals as goal

pub returns-clause-count : goal.returns-clause-count
returns-clause-count c = stack_count

pub returns-clause-words : goal.returns-clause-words
returns-clause-words c = stack_at
