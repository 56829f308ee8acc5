use Rattle.std.proofs.Common.{◌≡◌, []}
use Rattle.base_streams.specs.States.{InletState, IsReadable}
use Rattle.lab_term.specs.Reading.{Holds}
use Rattle.lab_term.proofs.CourseLemmas.{Waiting}
use Rattle.lab_term.proofs.follow.await_status.Given as goal

abbrev pub invariant-loop : goal.invariant-loop
invariant-loop g l = record {
  readable : IsReadable (g.I.Inlet.state l.from);
  reads : l.subscriber.reads ≡ l.counter;
  waiting : (before : InletState) → Holds before (g.I.Inlet.state l.fn.from) l.fn.subscriber []
      → Waiting l.key before (g.I.Inlet.state l.from) l.subscriber;
}
