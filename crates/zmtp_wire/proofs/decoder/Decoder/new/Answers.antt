use Rattle.std.proofs.Common.{refl}
use Rattle.zmtp_wire.proofs.FeedLemmas.{stands_new}
use Rattle.zmtp_wire.proofs.decoder.Decoder.new.Goals as goal

pub returns-clause-represents : goal.returns-clause-represents
returns-clause-represents c = stands_new _ refl refl c.new.ensures c.new-2.ensures.items refl
