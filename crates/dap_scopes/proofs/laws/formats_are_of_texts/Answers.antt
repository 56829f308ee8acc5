use Rattle.dap_scopes.proofs.RowLemmas.{formats_alike}
use Rattle.dap_scopes.proofs.laws.formats_are_of_texts.Goals as goal

pub returns : goal.returns
returns c = formats_alike
