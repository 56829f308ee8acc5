use Rattle.std.proofs.Common.{◌≡◌, ◌∙◌, true, false, is_some, IfOk, sym, ap, subst}
use Rattle.dap_session.specs.Slices.{caller_of}
use Rattle.dap_record.specs.Fields.{RecordedFields}
use Rattle.dap_record.specs.Slices.{told_in}
use Rattle.dap_record.specs.Represents.{RepresentsRecorded, Tells}
use Rattle.dap_record.proofs.RecordedLemmas.{none_searched, searching_is, turn_idle, turn_amid}
use Rattle.dap_record.proofs.recorded.RecordedSession.take_meant.Goals as goal

pub take_idle-requires : goal.take_idle-requires
take_idle-requires c =
    sym (ap (λ (v : RecordedFields). v.search) c.self.view_is)
    ∙ none_searched c.self.inside.search (sym c.is_some.ensures ∙ c.if-is_some.false)

pub returns-then-is_some : goal.returns-then-is_some
returns-then-is_some c = λ v given.
    let represents = subst (λ x. RepresentsRecorded x v) (sym c.self.view_is) given in
    let is : is_some v.search ≡ true =
    sym (searching_is c.self.inside.search v.search v.recording v.session represents.search)
    ∙ (sym c.is_some.ensures ∙ c.if-is_some.true) in
    subst (λ t. IfOk c.take_searching.result (λ messages. Tells (told_in (caller_of c.args.request) t)
    messages
    c.take_searching.new.self)) (sym (turn_amid c.args.request.asked c.args.file v is))
    (c.take_searching.ensures v given)

pub returns-else-is_some : goal.returns-else-is_some
returns-else-is_some c = λ v given.
    let represents = subst (λ x. RepresentsRecorded x v) (sym c.self.view_is) given in
    let is : is_some v.search ≡ false =
    sym (searching_is c.self.inside.search v.search v.recording v.session represents.search)
    ∙ (sym c.is_some.ensures ∙ c.if-is_some.false) in
    subst (λ t. IfOk c.take_idle.result (λ messages. Tells (told_in (caller_of c.args.request) t) messages
    c.take_idle.new.self)) (sym (turn_idle c.args.request.asked c.args.file v is))
    (c.take_idle.ensures v given)
