use Rattle.kern_net.proofs.ReadLemmas.{coming_refused, coming_stops}
use Rattle.kern_net.proofs.pump_in.submit_all.Goals as goal

pub returns-in-Err-clause-submitted : goal.returns-in-Err-clause-submitted
returns-in-Err-clause-submitted g c = (
  coming_refused _ _ _ c.next.new.self.rest.items _ _ _ _ c.in-Err.end c.loop-frames.invariant.coming
      c.in-Some.ensures.steps.0 c.in-Err.ensures.submitted.1 c.in-Err.ensures.submitted.0,
  coming_stops _ _ _ _ _ _ c.in-Err.end c.loop-frames.invariant.coming c.in-Err.ensures.submitted.1,
)
