use Rattle.std.proofs.Common.{◌∙◌, ap}
use Rattle.dap_record.specs.Fields.{RecordedFields}
use Rattle.dap_record.proofs.TravelLemmas.{some_taken}
use Rattle.dap_record.proofs.recorded.RecordedSession.before.Goals as goal

pub invariant_of-self : goal.invariant_of-self
invariant_of-self c =
    some_taken c.self.inside.session c.self.inside.recording c.take.new.self c.self.inside.search
    c.self.inside.search c.self.invariant c.take.ensures.after
    (ap (λ (v : RecordedFields). v.search) c.self.view_is ∙ c.requires)
