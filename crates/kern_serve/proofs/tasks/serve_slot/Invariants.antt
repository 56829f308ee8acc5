use Rattle.std.specs.Prelude.{Some}
use Rattle.kern_host.specs.Guests.{AreOf}
use Rattle.kern_host.specs.Visits.{VisitsEach}
use Rattle.kern_serve.specs.Houses.{house_of}
use Rattle.kern_serve.proofs.tasks.serve_slot.Given as goal

abbrev pub invariant-loop : goal.invariant-loop
invariant-loop g l = record {
  own : AreOf l.shared.desk (Some l.passes);
  visits : VisitsEach (house_of l.shared) l.slot.channel l.fn.passes l.passes;
}
