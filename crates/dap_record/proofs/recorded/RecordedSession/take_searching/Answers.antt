use Rattle.std.proofs.Common.{◌≡◌, ◌∙◌, None, IfOk, ap, sym, subst}
use Rattle.dap_session.specs.Slices.{caller_of}
use Rattle.dap_requests.specs.declared.traits.MidSearch.TheVariants as mid
use Rattle.dap_requests.specs.declared.traits.RequestTraits.{RequestTraits}
use Rattle.dap_requests.specs.Traits.{mid_search}
use Rattle.dap_record.specs.Slices.{told_in}
use Rattle.dap_record.specs.Turns.{turn_searching}
use Rattle.dap_record.specs.Represents.{RepresentsRecorded, Tells}
use Rattle.dap_record.proofs.recorded.RecordedSession.take_searching.Goals as goal

pub returns-in-End : goal.returns-in-End
returns-in-End c = λ v given.
    let is : mid_search c.args.request.asked ≡ mid.End =
    sym (ap (λ (t : RequestTraits). t.mid_search) c.traits_of.ensures) ∙ c.in-End.is in
    let represents : RepresentsRecorded c.end_search.new.self (record v { search = None }) =
    subst (λ x. RepresentsRecorded x (record v { search = None })) (sym c.end_search.ensures)
    (record { session = given.session; recording = given.recording; search = tt }) in
    subst (λ m. IfOk c.take_recorded.result (λ messages. Tells
    (told_in (caller_of c.args.request) (turn_searching m c.args.request.asked c.args.file v)) messages
    c.take_recorded.new.self)) (sym is) (c.take_recorded.ensures (record v { search = None }) represents)
