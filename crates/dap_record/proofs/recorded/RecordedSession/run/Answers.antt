use Rattle.std.proofs.Common.{◌≡◌, ◌∙◌, false, Some, None, is_some, sym, ap, subst}
use Rattle.dap_record.specs.Represents.{RepresentsRecorded, RepresentsSome}
use Rattle.dap_record.proofs.TravelLemmas.{some_without}
use Rattle.dap_record.proofs.RecordedLemmas.{searching_is, told_idle, told_searching, is_searched}
use Rattle.dap_record.proofs.recorded.RecordedSession.run.Goals as goal

pub invariant_of-self-in-Some-take : goal.invariant_of-self-in-Some-take
invariant_of-self-in-Some-take c =
    some_without c.self.inside.session c.take-in-Some.new.self c.take.new.self
    (c.self.invariant.0.session, c.self.invariant.1.session) c.take-in-Some.ensures.after c.take.ensures.after

pub search_from-requires : goal.search_from-requires
search_from-requires c =
    let session = c.self.inside.session in
    let recording : c.self.inside.recording ≡ Some c.in-Some-take.recording =
    sym c.take-in-Some.ensures.value ∙ c.in-Some-take.is in
    let search : c.self.inside.search ≡ Some c.in-Some.search = sym c.take.ensures.value ∙ c.in-Some.is in
    let some = subst (λ o. RepresentsSome (record {
      session = session;
      recording = o;
      search = Some c.in-Some.search;
    })) recording
    (subst (λ k. RepresentsSome (record {
      session = session;
      recording = c.self.inside.recording;
      search = k;
    })) search c.self.invariant) in (
      c.take-in-Some.ensures.after,
      c.take.ensures.after,
      is_searched c.in-Some-take.recording c.in-Some.search session some,
    )

pub returns-in-None : goal.returns-in-None
returns-in-None c = λ v given.
    let represents = subst (λ x. RepresentsRecorded x v) (sym c.self.view_is) given in
    let none : c.self.inside.search ≡ None = sym c.take.ensures.value ∙ c.in-None.is in
    let same : c.self.inside.search ≡ c.take.new.self = none ∙ sym c.take.ensures.after in
    let idle : is_some v.search ≡ false =
    sym (searching_is c.self.inside.search v.search v.recording v.session represents.search) ∙ ap is_some
    none in
    told_idle v c.run_on.result c.run_on.new.self idle
    (c.run_on.ensures v (subst (λ k. RepresentsRecorded (record {
      session = c.self.inside.session;
      recording = c.self.inside.recording;
      search = k;
    }) v) same represents))

pub returns-in-Some-take : goal.returns-in-Some-take
returns-in-Some-take c = λ v given.
    let represents = subst (λ x. RepresentsRecorded x v) (sym c.self.view_is) given in
    told_searching v c.in-Some-take.recording c.in-Some.search _ c.search_from.result c.search_from.new.self
    represents (sym c.take-in-Some.ensures.value ∙ c.in-Some-take.is) (sym c.take.ensures.value ∙
    c.in-Some.is)
    c.search_from.ensures
