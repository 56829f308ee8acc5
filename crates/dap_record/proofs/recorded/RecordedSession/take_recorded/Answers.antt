use Rattle.std.proofs.Common.{◌∙◌, ap, sym, subst}
use Rattle.dap_session.specs.Represents.{RepresentsSession}
use Rattle.dap_session.specs.Requests as session
use Rattle.dap_session.specs.Slices.{caller_of}
use Rattle.dap_record.specs.Turns.{recorded_turn}
use Rattle.dap_record.specs.Fields.{RecordedFields}
use Rattle.dap_record.proofs.TravelLemmas.{some_without, some_unsearched, told_unsearched}
use Rattle.dap_record.proofs.recorded.RecordedSession.take_recorded.Goals as goal

pub invariant_of-self-in_err-noted : goal.invariant_of-self-in_err-noted
invariant_of-self-in_err-noted c =
    let some = c.self.invariant in
    let told = c.in_ok-outcome.ensures.0 some.0.session some.1.session in
    some_without c.take.new.self c.self.inside.recording c.self.inside.search (_, told.represents)
    (ap (λ (v : RecordedFields). v.recording) c.self.view_is ∙ c.before-before.ensures.taken)
    (ap (λ (v : RecordedFields). v.search) c.self.view_is ∙ (c.before-before.ensures.search ∙ c.requires))

pub returns : goal.returns
returns c = λ v represents.
    let known = c.before-before.ensures.before v represents in
    let same =
    ap (λ (x : RecordedFields). x.session) c.self.view_is ∙ c.before-before.ensures.session in
    let told =
    c.in_ok-outcome.ensures.0 v.session
    (subst (λ x. RepresentsSession x v.session) (sym same) represents.session) in
    let noted =
    c.in_ok-noted.ensures c.args.request.asked c.args.file v (caller_of c.args.request) known
    (record { messages_are = told.messages; effect_is = told.effect; represents = told.represents }) in
    told_unsearched _ _ c.self.inside.search
    (ap (λ (x : RecordedFields). x.search) c.self.view_is ∙ (c.before-before.ensures.search ∙ c.requires))
    (record {
      messages_are = noted.messages;
      represents = record { session = told.represents; recording = noted.recording; search = tt };
    })

pub invariant_of-self-2 : goal.invariant_of-self-2
invariant_of-self-2 c =
    let some = c.before-before.ensures.some in
    let v = some.0 in
    let represents = some.1 in
    let known = c.before-before.ensures.before v represents in
    let same =
    ap (λ (x : RecordedFields). x.session) c.self.view_is ∙ c.before-before.ensures.session in
    let told =
    c.in_ok-outcome.ensures.0 v.session
    (subst (λ x. RepresentsSession x v.session) (sym same) represents.session) in
    let noted =
    c.in_ok-noted.ensures c.args.request.asked c.args.file v (caller_of c.args.request) known
    (record { messages_are = told.messages; effect_is = told.effect; represents = told.represents }) in
    let t = recorded_turn c.args.request.asked v (session.turn c.args.request.asked c.args.file v.session) in
    some_unsearched _ _ c.self.inside.search
    (ap (λ (x : RecordedFields). x.search) c.self.view_is ∙ (c.before-before.ensures.search ∙ c.requires))
    (t.state, record { session = told.represents; recording = noted.recording; search = tt })
