use Rattle.std.proofs.Common.{arith}
use Rattle.dap_history.proofs.RunLemmas.{goes_on}
use Rattle.dap_history.proofs.laws.run_goes_on.Goals as goal

pub returns : goal.returns
returns c = λ start log c' n asc within. goes_on 0 c' n start log asc (omega arith) within
