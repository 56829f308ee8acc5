use Rattle.std.proofs.Common.{refl}
use Rattle.dap_stream.proofs.StreamLemmas.{reads_none}
use Rattle.dap_stream.proofs.decoder.Decoder.new.Goals as goal

pub returns-clause-reads : goal.returns-clause-reads
returns-clause-reads c = reads_none _ c.new.ensures.items refl
