use Rattle.std.proofs.Common.{◌∙◌, sym, ap, subst}
use Rattle.dap_session.specs.Represents.{RepresentsSession}
use Rattle.dap_record.specs.Fields.{RecordedFields}
use Rattle.dap_record.specs.Represents.{IsSearched}
use Rattle.dap_record.proofs.TravelLemmas.{some_without}
use Rattle.dap_record.proofs.recorded.RecordedSession.search_from.Goals as goal

pub search_on-requires : goal.search_on-requires
search_on-requires c =
    subst (λ session. IsSearched c.args.recording c.args.search session)
    (sym (ap (λ (v : RecordedFields). v.session) c.self.view_is)) c.requires.2

pub invariant_of-self : goal.invariant_of-self
invariant_of-self c =
    let at = subst (λ session. IsSearched c.args.recording c.args.search session)
    (sym (ap (λ (v : RecordedFields). v.session) c.self.view_is)) c.requires.2 in
    let made = c.in-Ok.ensures at.0 at.1 at.2 at.3 at.4 at.5 in
    (_, made.1.represents)

pub invariant_of-self-in-Err : goal.invariant_of-self-in-Err
invariant_of-self-in-Err c =
    some_without c.search_on.new.session c.self.inside.recording c.self.inside.search
    c.represents_some.ensures
    (ap (λ (v : RecordedFields). v.recording) c.self.view_is ∙ c.requires.0)
    (ap (λ (v : RecordedFields). v.search) c.self.view_is ∙ c.requires.1)

pub returns-in-Ok : goal.returns-in-Ok
returns-in-Ok c = λ goal r s represents recording is.
    c.in-Ok.ensures goal r s
    (subst (λ session. RepresentsSession session s) (sym (ap (λ (v : RecordedFields). v.session)
    c.self.view_is))
    represents) recording is
