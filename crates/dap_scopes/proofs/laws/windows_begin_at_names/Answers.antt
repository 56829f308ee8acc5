use Rattle.dap_scopes.proofs.RowLemmas.{memory_leads, stack_leads}
use Rattle.dap_scopes.proofs.laws.windows_begin_at_names.Goals as goal

pub returns-clause-memory : goal.returns-clause-memory
returns-clause-memory c = memory_leads

pub returns-clause-stack : goal.returns-clause-stack
returns-clause-stack c = stack_leads
