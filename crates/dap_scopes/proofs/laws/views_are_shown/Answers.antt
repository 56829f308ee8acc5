use Rattle.dap_scopes.proofs.RowLemmas.{shows_view}
use Rattle.dap_scopes.proofs.laws.views_are_shown.Goals as goal

pub returns : goal.returns
returns c = shows_view
