use Rattle.dap_record.proofs.TravelLemmas.{some_ended}
use Rattle.dap_record.proofs.recorded.RecordedSession.end_search.Goals as goal

pub invariant_of-self : goal.invariant_of-self
invariant_of-self c =
    some_ended c.self.inside.session c.self.inside.recording c.self.inside.search c.self.invariant
