use Rattle.std.proofs.Common.{◌∙◌, Err, ap, sym, subst}
use Rattle.dap_record.specs.Fields.{RecordingFields}
use Rattle.dap_record.specs.Represents.{RepresentsRecording}
use Rattle.dap_record.proofs.RequestLemmas.{input_recorded, none_left, not_refused}
use Rattle.dap_record.proofs.input.record.Goals as goal

pub returns-in-Ok : goal.returns-in-Ok
returns-in-Ok c = λ r before s recording came can.
    let v : RecordingFields = record {
      history = c.recording.inside.history;
      count = c.recording.inside.count;
      told = c.recording.inside.told;
    } in
    input_recorded v r before s c.args.input c.forget_after.new.self c.record.new.self
    (subst (λ x. RepresentsRecording x r before) (sym c.recording.view_is) recording) came can
    c.forget_after.ensures.cut (c.forget_after.ensures.history r.start) c.in-Ok.ensures.ok
    (c.record.ensures.history r.start) (not_refused c.record.result c.in-Ok.field-0 c.args.input
    c.forget_after.new.self.log c.in-Ok.is
    c.record.ensures.err.1)

pub returns-in-Err-Full : goal.returns-in-Err-Full
returns-in-Err-Full c = λ r before s recording came can.
    let v : RecordingFields = record {
      history = c.recording.inside.history;
      count = c.recording.inside.count;
      told = c.recording.inside.told;
    } in
    none_left v r before s c.args.input c.forget_after.new.self
    (subst (λ x. RepresentsRecording x r before) (sym c.recording.view_is) recording)
    c.forget_after.ensures.cut (c.record.ensures.err.1.0 (c.in-Err-Full.is ∙ ap Err c.in-Err-Full.field-0-is))
