use Rattle.std.proofs.Common.{◌≡◌, false, length}
use Rattle.base_streams.specs.States.{IsWritable}
use Rattle.lab_term.proofs.CourseLemmas.{Busy}
use Rattle.lab_term.proofs.follow.take_messages.Given as goal

abbrev pub invariant-loop-frames : goal.invariant-loop-frames
invariant-loop-frames g l = record {
  good : IsWritable (g.O.Outlet.state l.output);
  idle : l.course.is_idle ≡ false;
  going : Busy (record { key = l.key; header = l.header }) l.fn.queue.items l.queue.items
      (g.O.Outlet.state l.fn.output) (g.O.Outlet.state l.output) l.course.has_failed;
}

abbrev pub decreases-loop-frames : goal.decreases-loop-frames
decreases-loop-frames g l = length l.queue.items
