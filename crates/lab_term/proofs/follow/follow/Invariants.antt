use Rattle.std.proofs.Common.{◌≡◌, ℕ, List}
use Rattle.base_streams.specs.States.{InletState, IsReadable, IsWritable}
use Rattle.lab_term.specs.Reading.{Holds}
use Rattle.lab_term.proofs.CourseLemmas.{Follows}
use Rattle.lab_term.proofs.follow.follow.Given as goal

abbrev pub invariant-loop : goal.invariant-loop
invariant-loop g l = record {
  readable : IsReadable (g.I.Inlet.state l.from);
  writable : IsWritable (g.O.Outlet.state l.output);
  reads : l.subscriber.reads ≡ l.counter;
  follows : (before : InletState) (passed : List (List (List ℕ)))
      → Holds before (g.I.Inlet.state l.fn.from) l.fn.subscriber passed
      → Follows (record { key = l.key; header = l.header }) before
      (g.I.Inlet.state l.from) l.subscriber passed
      (g.O.Outlet.state l.fn.output) (g.O.Outlet.state l.output) l.course.has_failed;
}
