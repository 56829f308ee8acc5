use Rattle.std.proofs.Common.{◌≡◌, ◌∙◌, Some, sym, ap, subst}
use Rattle.dap_record.specs.Fields.{RecordedFields}
use Rattle.dap_record.specs.Represents.{RepresentsRecorded}
use Rattle.dap_record.proofs.TravelLemmas.{some_without, some_unsearched, told_unsearched}
use Rattle.dap_record.proofs.SliceLemmas.{recorded_in, told_recorded, still_some}
use Rattle.dap_record.proofs.recorded.RecordedSession.run_on.Goals as goal

pub invariant_of-self : goal.invariant_of-self
invariant_of-self c =
    let before = c.self.invariant in
    let some = still_some c.run.result _ _ before.0.session before.1.session c.run.ensures in
    some_without c.run.new.self c.take.new.self c.self.inside.search some c.take.ensures.after
    (ap (λ (v : RecordedFields). v.search) c.self.view_is ∙ c.requires)

pub invariant_of-self-in-Ok : goal.invariant_of-self-in-Ok
invariant_of-self-in-Ok c =
    let v = c.self.invariant.0 in
    let represents = c.self.invariant.1 in
    let is : c.self.inside.recording ≡ Some c.in-Some.recording = sym c.take.ensures.value ∙ c.in-Some.is in
    let r =
    recorded_in c.self.inside.recording c.in-Some.recording v.recording v.session is represents.recording in
    let made = c.in-Ok.ensures r.0 v.session represents.session r.2 in
    some_unsearched c.run_recorded.new.session c.in-Ok.slice.recording c.self.inside.search
    (ap (λ (v : RecordedFields). v.search) c.self.view_is ∙ c.requires) (_, made.represents)

pub invariant_of-self-in-Err : goal.invariant_of-self-in-Err
invariant_of-self-in-Err c =
    some_without c.run_recorded.new.session c.take.new.self c.self.inside.search c.represents_some.ensures
    c.take.ensures.after (ap (λ (v : RecordedFields). v.search) c.self.view_is ∙ c.requires)

pub returns-in-Ok : goal.returns-in-Ok
returns-in-Ok c = λ v given.
    let represents = subst (λ x. RepresentsRecorded x v) (sym c.self.view_is) given in
    let is : c.self.inside.recording ≡ Some c.in-Some.recording = sym c.take.ensures.value ∙ c.in-Some.is in
    let r =
    recorded_in c.self.inside.recording c.in-Some.recording v.recording v.session is represents.recording in
    let wants = sym (c.wants_slice.ensures v.session represents.session) ∙ c.if-not-wants_slice.false in
    told_unsearched c.run_recorded.new.session c.in-Ok.slice.recording c.self.inside.search
    (ap (λ (v : RecordedFields). v.search) c.self.view_is ∙ c.requires)
    (told_recorded v r.0 c.in-Ok.slice c.run_recorded.new.session wants r.1
    (c.in-Ok.ensures r.0 v.session represents.session r.2))
