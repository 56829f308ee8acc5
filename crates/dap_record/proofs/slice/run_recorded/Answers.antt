use Rattle.std.proofs.Common.{◌∙◌, ◌+◌, List, sym, ap, subst, nat_lt}
use Rattle.dap_history.specs.declared.input.Recorded.{Recorded}
use Rattle.dap_history.specs.Logs.{up_to}
use Rattle.dap_session.specs.States.{SessionState, with_board}
use Rattle.dap_session.specs.Represents.{RepresentsSession}
use Rattle.dap_record.specs.Fields.{RecordingFields}
use Rattle.dap_record.specs.Recordings.{after_inputs}
use Rattle.dap_record.specs.Slices.{new_messages}
use Rattle.dap_record.specs.Represents.{RepresentsRecording}
use Rattle.dap_record.proofs.SliceLemmas.{IsLimit, slice_made}
use Rattle.dap_record.proofs.slice.run_recorded.Goals as goal

pub returns : goal.returns
returns c = λ r s represents rec.
    let viewed = sym c.recording.view_is in
    let made = c.in_ok-messages.field-0 in
    let count = c.in-Some.count in
    let new = c.redo_up_to.new.session in
    let again : List Recorded → Type 0 =
    λ ahead. (s : SessionState) → RepresentsSession c.run_within.new.self s
    → RepresentsSession new (with_board (after_inputs (up_to count ahead) s.board) s) in
    slice_made _ r s c.slice_limit.result count c.max.result made c.run_within.new.self new _
    (subst (λ v. RepresentsRecording v r s) viewed rec)
    (subst (λ v. IsLimit c.slice_limit.result v) viewed c.slice_limit.ensures.limit)
    (c.in_ok-messages.ensures.ok s represents)
    (c.in-Some.ensures.1 ∙ ap (λ n. c.recording.inside.count + n) c.into.ensures)
    c.max.ensures
    (subst again c.later_than-ahead.ensures c.in_ok-redo_up_to.ensures)
    c.keep.ensures
    (c.new_messages.ensures
    ∙ ap (λ b. new_messages b made.messages)
    (c.is_behind-is_behind.ensures ∙ ap (λ (v : RecordingFields). nat_lt v.count v.told) viewed))
