use Rattle.std.proofs.Common.{length}
use Rattle.dap_stream.proofs.StreamLemmas.{HasTaken}
use Rattle.dap_stream.proofs.reading.read_messages.Given as goal

abbrev pub invariant-loop-body : goal.invariant-loop-body
invariant-loop-body l = HasTaken l.bytes l.bodies.items l.rest

abbrev pub decreases-loop-body : goal.decreases-loop-body
decreases-loop-body l = length l.rest
