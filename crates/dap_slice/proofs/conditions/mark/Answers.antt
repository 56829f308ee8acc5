use Rattle.dap_slice.proofs.ChangeLemmas.{marks_address, marks_line, marks_place}
use Rattle.dap_slice.proofs.conditions.mark.Goals as goal

pub returns-in-Address-clause-ok : goal.returns-in-Address-clause-ok
returns-in-Address-clause-ok c = λ points p is marked.
    marks_address points p c.args.trigger c.in-Address.address c.args.marks.now c.add_address.new.self is
    c.in-Address.is marked c.add_address.ensures.addresses c.add_address.ensures.rest

pub returns-in-Change-clause-ok : goal.returns-in-Change-clause-ok
returns-in-Change-clause-ok c = λ points p is marked.
    marks_place points p c.args.trigger c.in-Change.place c.args.marks.now c.watch.new.self c.watch.result is
    c.in-Change.is marked c.watch.ensures.ok

pub returns-in-Line-clause-ok : goal.returns-in-Line-clause-ok
returns-in-Line-clause-ok c = λ points p is marked.
    marks_line points p c.args.trigger c.in-Line.field-0 c.args.marks.now is c.in-Line.is marked
