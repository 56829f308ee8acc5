use Rattle.std.proofs.Common.{◌≡◌, ◌∙◌, true, Some, IfOk, sym, ap, subst, true≢false}
use Rattle.dap_session.specs.Memory.{is_stopped}
use Rattle.dap_session.specs.Rewinds.{can_go_back}
use Rattle.dap_record.specs.Represents.{RepresentsRecorded, RepresentsRecordingIf, Replies}
use Rattle.dap_record.specs.Fields.{RecordedFields}
use Rattle.dap_record.specs.Backward.{RecordedReply}
use Rattle.dap_record.specs.declared.back.Back.TheVariants as back
use Rattle.dap_record.proofs.TravelLemmas.{some_taken, recorded_in, replies_recorded, replies_if}
use Rattle.dap_record.proofs.TravelLemmas.{going_back_clear}
use Rattle.dap_record.proofs.recorded.RecordedSession.reply_back.Goals.{in-Unclear, in_default}
use Rattle.dap_record.proofs.recorded.RecordedSession.reply_back.Goals.{then-can_go_back, else-can_go_back}
use Rattle.dap_record.proofs.recorded.RecordedSession.reply_back.Goals as goal

pub invariant_of-self-in-Some : goal.invariant_of-self-in-Some
invariant_of-self-in-Some c =
    some_taken c.self.inside.session c.self.inside.recording c.take.new.self c.self.inside.search
    c.self.inside.search c.self.invariant c.take.ensures.after
    (ap (λ (v : RecordedFields). v.search) c.self.view_is ∙ c.requires)

pub reply_from-requires : goal.reply_from-requires
reply_from-requires c = (
  c.take.ensures.after,
  ap (λ (v : RecordedFields). v.search) c.self.view_is ∙ c.requires,
  recorded_in c.in-Some.recording c.self.inside.session c.self.inside.recording c.self.inside.search
      c.in-Some.ensures.value c.self.invariant,
)

pub returns-in-Some : goal.returns-in-Some
returns-in-Some c = λ v represents.
    let old = c.self.inside in
    let viewed : RepresentsRecorded (record {
      session = old.session;
      recording = old.recording;
      search = old.search;
    }) v =
    subst (λ (x : RecordedFields). RepresentsRecorded x v) (sym c.self.view_is) represents in
    let recording : RepresentsRecordingIf (Some c.in-Some.recording) v.recording v.session =
    subst (λ o. RepresentsRecordingIf o v.recording v.session) (sym c.in-Some.ensures.value)
    viewed.recording in
    let replied =
    replies_recorded c.args.back c.in-Some.recording old.session v.recording v.session
    c.reply_from.result c.reply_from.new.self viewed.session recording c.reply_from.ensures in
    let both : (can_go_back v.session ≡ true) × (is_stopped v.session.board.run ≡ true) =
    elim c.if-can_go_back.branch [
      | then-can_go_back w ↦ (
        sym (c.can_go_back.ensures v.session viewed.session) ∙ w.if-can_go_back.true,
        sym (w.is_stopped.ensures v.session viewed.session) ∙ (sym w.value-is ∙ c.if-not-is_stopped.false),
      )
      | else-can_go_back w ↦ absurd (true≢false
          (sym c.if-not-is_stopped.false ∙ (w.value-is ∙ w.if-can_go_back.false)))
    ] in
    let clear : c.args.back ≡ back.Unclear → ⊥ = elim c.match-matches.branch [
      | in-Unclear w ↦ absurd (true≢false (sym w.matches-is ∙ c.if-matches.false))
      | in_default w ↦ w.in_default.not-Unclear
    ] in
    subst (λ (x : RecordedReply). IfOk c.reply_from.result (λ reply. Replies x reply c.reply_from.new.self))
    (going_back_clear c.args.back v clear)
    (replies_if c.args.back v c.reply_from.result c.reply_from.new.self both.0 both.1 replied)
