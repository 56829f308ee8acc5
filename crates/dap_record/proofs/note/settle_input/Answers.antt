use Rattle.std.proofs.Common.{IfOk, sym, subst}
use Rattle.dap_record.specs.Represents.{RepresentsRecordingIf}
use Rattle.dap_record.specs.Noting.{IsAfterInputIf, NotesInput}
use Rattle.dap_record.proofs.RequestLemmas.{input_noted}
use Rattle.dap_record.proofs.note.settle_input.Goals as goal

pub returns-in-Some-input : goal.returns-in-Some-input
returns-in-Some-input c = λ v s recording represents came.
    subst (λ o. IfOk c.note.result (NotesInput v s o c.args.messages)) (sym c.in-Some-input.is)
    (input_noted c.in-Some.recording v s c.in-Some-input.input c.args.messages c.args.session.now
    c.note.result
    (subst (λ o. RepresentsRecordingIf o v.recording v.session) c.in-Some.is recording) represents
    (subst (λ o. IsAfterInputIf o v.session s) c.in-Some-input.is came)
    c.note.ensures.messages c.note.ensures.recording)
