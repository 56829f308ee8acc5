use Rattle.std.proofs.Common.{length}
use Rattle.dap_stream.proofs.StreamLemmas.{HasRead}
use Rattle.dap_stream.proofs.header.read_lines.Given as goal

abbrev pub invariant-loop-others : goal.invariant-loop-others
invariant-loop-others l = HasRead l.bytes l.rest l.size

abbrev pub decreases-loop-others : goal.decreases-loop-others
decreases-loop-others l = length l.rest
