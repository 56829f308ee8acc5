use Rattle.std.proofs.Common.{◌≡◌, ◌∙◌, Some, refl, sym, ap, subst}
use Rattle.dap_run.specs.declared.reply.Reply.{Reply}
use Rattle.dap_history.specs.Runs.{board_at}
use Rattle.dap_session.specs.Laws.{SameParts}
use Rattle.dap_record.specs.Fields.{RecordingFields}
use Rattle.dap_record.specs.Backward.{goal_of, leaving}
use Rattle.dap_record.specs.Represents.{Replies}
use Rattle.dap_record.proofs.TravelLemmas.{departs}
use Rattle.dap_record.proofs.travel.begin_search.Goals as goal

pub returns : goal.returns
returns c = λ r s represents recording is.
    let count : c.recording.inside.count ≡ r.count =
    ap (λ (v : RecordingFields). v.count) c.recording.view_is ∙ recording.count in
    let parts : SameParts (board_at r.start r.log c.recording.inside.count) s.board =
    subst (λ n. SameParts (board_at r.start r.log n) s.board) (sym count) recording.parts in
    let reply = leaving (goal_of c.args.back r.count s) c.args.back r s in
    subst (λ (told : Reply). Replies reply told (record {
      session = c.begin_search.new.self;
      recording = Some c.args.recording.now;
      search = Some (record { goal = c.args.goal; search = c.in_ok-search.search });
    })) (sym c.succeed.ensures)
    (departs c.args.back c.args.goal r s c.args.recording.now r.log c.recording.inside.count
    c.in_ok-search.search c.begin_search.new.self c.in_ok-body.body is recording refl count
    c.in_ok-body.ensures (c.in_ok-search.ensures r.start r.log s represents parts))
