use Rattle.dap_history.proofs.RunLemmas.{goes_on_appended}
use Rattle.dap_history.proofs.laws.log_splits.Goals as goal

pub returns : goal.returns
returns c = λ start first rest c' n asc within later last.
    goes_on_appended 0 c' n start first rest asc within later last
