use Rattle.std.proofs.Common.{◌∙◌, IfOk, sym, subst}
use Rattle.dap_session.specs.Slices.{caller_of}
use Rattle.dap_record.specs.Slices.{told_in}
use Rattle.dap_record.specs.Represents.{Tells}
use Rattle.dap_record.proofs.RecordedLemmas.{turn_recorded, turn_back}
use Rattle.dap_record.proofs.recorded.RecordedSession.take_idle.Goals as goal

pub returns-in-Some : goal.returns-in-Some
returns-in-Some c = λ v represents.
    let back = sym (c.back_in.ensures v represents) ∙ c.in-Some.is in
    let same = turn_back c.args.request.asked c.args.file v c.in-Some.back back in
    subst (λ t. IfOk c.take_back.result (λ messages. Tells (told_in (caller_of c.args.request) t) messages
    c.take_back.new.self)) (sym same) (c.take_back.ensures v represents)

pub returns-in-None : goal.returns-in-None
returns-in-None c = λ v represents.
    let back = sym (c.back_in.ensures v represents) ∙ c.in-None.is in
    let same = turn_recorded c.args.request.asked c.args.file v back in
    subst (λ t. IfOk c.take_recorded.result (λ messages. Tells (told_in (caller_of c.args.request) t) messages
    c.take_recorded.new.self)) (sym same) (c.take_recorded.ensures v represents)
