use Rattle.dap_stream.proofs.LawLemmas.{one_state}
use Rattle.dap_stream.proofs.laws.one_reading.Goals as goal

pub returns : goal.returns
returns c s t stream m n a b = one_state s t stream m n a b
