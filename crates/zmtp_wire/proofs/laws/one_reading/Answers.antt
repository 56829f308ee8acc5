use Rattle.zmtp_wire.proofs.FeedLemmas.{one_state}
use Rattle.zmtp_wire.proofs.laws.one_reading.Goals as goal

pub returns : goal.returns
returns c s t stream m n r a b = one_state s t stream m n r a b
