use Rattle.std.proofs.Common.{◌≡◌, ◌∙◌, true, nat_lt, ap, sym, subst, arith}
use Rattle.std.proofs.lemmas.Bool.Decides.{nat_tests}
use Rattle.dap_session.specs.Represents.{RepresentsSession}
use Rattle.dap_record.specs.Fields.{RecordingFields, RecordedFields}
use Rattle.dap_record.specs.Represents.{IsRecorded}
use Rattle.dap_record.proofs.TravelLemmas.{some_with, some_without, some_back, replies_back}
use Rattle.dap_record.proofs.recorded.RecordedSession.reply_from.Goals as goal

pub invariant_of-self : goal.invariant_of-self
invariant_of-self c =
    some_with c.args.recording c.self.inside.session c.self.inside.search
    (ap (λ (v : RecordedFields). v.search) c.self.view_is ∙ c.requires.1)
    (subst (λ session. IsRecorded c.args.recording session)
    (sym (ap (λ (v : RecordedFields). v.session) c.self.view_is)) c.requires.2)

pub invariant_of-self-in-Ok : goal.invariant_of-self-in-Ok
invariant_of-self-in-Ok c =
    let at = subst (λ session. IsRecorded c.args.recording session)
    (sym (ap (λ (v : RecordedFields). v.session) c.self.view_is)) c.requires.2 in
    some_back c.args.back at.0 at.1 c.in-Ok.departure c.go_back.new.recording c.go_back.new.session
    (c.in-Ok.ensures at.0 at.1 at.2 at.3)

pub invariant_of-self-in-Err : goal.invariant_of-self-in-Err
invariant_of-self-in-Err c =
    some_without c.go_back.new.session c.self.inside.recording c.self.inside.search c.represents_some.ensures
    (ap (λ (v : RecordedFields). v.recording) c.self.view_is ∙ c.requires.0)
    (ap (λ (v : RecordedFields). v.search) c.self.view_is ∙ c.requires.1)

pub returns-in-Ok : goal.returns-in-Ok
returns-in-Ok c = λ r s represents recording.
    let viewed = subst (λ session. RepresentsSession session s)
    (sym (ap (λ (v : RecordedFields). v.session) c.self.view_is)) represents in
    let count : c.recording.inside.count ≡ r.count =
    ap (λ (v : RecordingFields). v.count) c.recording.view_is ∙ recording.count in
    let nonzero = c.if-recording-eq0.false in
    let some : nat_lt 0 r.count ≡ true = grind (arith, nat_tests) in
    replies_back c.args.back r s c.in-Ok.departure c.go_back.new.recording c.go_back.new.session some
    (c.in-Ok.ensures r s viewed recording)
