use Rattle.std.proofs.Common.{◌∙◌, sym}
use Rattle.dap_record.proofs.RequestLemmas.{begun_noted, other_noted}
use Rattle.dap_record.proofs.note.settle.Goals as goal

pub returns-then-may_begin : goal.returns-then-may_begin
returns-then-may_begin c = λ a found v caller known answered.
    begun_noted a found v caller c.args.before c.args.outcome c.args.session.now c.begin.result known answered
    (sym c.may_begin.ensures ∙ c.if-may_begin.true) c.begin.ensures.messages c.begin.ensures.recording

pub returns : goal.returns
returns c = λ a found v caller known answered.
    other_noted a found v caller c.args.before c.args.outcome c.args.session.now c.input_in-input.result
    c.settle_input.result known answered (sym c.may_begin.ensures ∙ c.if-may_begin.false)
    c.input_in-input.ensures c.settle_input.ensures
