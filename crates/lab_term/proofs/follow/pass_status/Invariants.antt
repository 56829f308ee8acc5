use Rattle.std.proofs.Common.{length}
use Rattle.lab_term.proofs.CourseLemmas.{Passing}
use Rattle.lab_term.proofs.follow.pass_status.Given as goal

abbrev pub invariant-loop-frames : goal.invariant-loop-frames
invariant-loop-frames l = Passing l.key l.fn.queue.items l.queue.items

abbrev pub decreases-loop-frames : goal.decreases-loop-frames
decreases-loop-frames l = length l.queue.items
