use Rattle.std.proofs.Common.{◌-◌}
use Rattle.dap_slice.proofs.TallyLemmas.{TakenSoFar}
use Rattle.dap_slice.proofs.tally.take_away.Given as goal

abbrev pub invariant-loop-index : goal.invariant-loop-index
invariant-loop-index l = TakenSoFar l.fn.points l.points l.gone l.index

abbrev pub decreases-loop-index : goal.decreases-loop-index
decreases-loop-index l = l.end - l.index
