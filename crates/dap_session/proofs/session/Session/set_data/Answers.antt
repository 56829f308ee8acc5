use Rattle.std.proofs.Common.{◌∙◌, List, ap, subst, sym, rules}
use Rattle.dap_slice.specs.declared.conditions.ConditionalBreakpoint.{ConditionalBreakpoint}
use Rattle.dap_messages.specs.declared.message.EditorBody.TheVariants.{Breakpoints}
use Rattle.dap_messages.specs.declared.message.EditorOutcome.TheVariants.{Success}
use Rattle.dap_messages.specs.declared.message.PlacedBreakpoint.{PlacedBreakpoint}
use Rattle.dap_requests.specs.declared.request.DataBreakpoint.{DataBreakpoint}
use Rattle.dap_run.specs.declared.reply.Reply.{Reply}
use Rattle.dap_breakpoints.specs.Reports.{data_where}
use Rattle.dap_session.specs.declared.settings.SessionSettings.{SessionSettings}
use Rattle.dap_session.specs.States.{with_points, with_conditional}
use Rattle.dap_session.specs.Breakpoints.{conditional_where, data_list, setting_data}
use Rattle.dap_session.specs.Represents.{SessionFields, RepresentsSession, Replies}
use Rattle.dap_session.proofs.session.Session.set_data.Goals as goal

pub returns : goal.returns
returns c = (
  λ s represents.
      let on_data = c.as_slice-breakpoints.result.now in
      let found = c.in_ok-conditional.ensures s represents in
      let Q : SessionFields → Type 0 = λ v. RepresentsSession v s in
      let viewed = subst Q (sym c.self.view_is) represents in
      let p = s.settings.points in
      let program = s.settings.program in
      let R : List DataBreakpoint → List ConditionalBreakpoint → Type 0 =
      λ ds points. RepresentsSession c.keep_conditional.new.self
      (with_points (record p { on_data = ds }) (with_conditional points s)) in
      let T : List DataBreakpoint → Type 0 =
      λ ds. Replies (setting_data ds s) c.succeed.result c.keep_conditional.new.self in
      let told : T on_data = record {
        outcome =
            ap (λ (r : Reply). r.outcome) c.succeed.ensures
            ∙ (ap (λ (ps : List PlacedBreakpoint). Success (Breakpoints ps))
            (c.in_ok-points.ensures s.board viewed.board)
            ∙ ap (λ (t : SessionSettings). Success (Breakpoints (data_where t.program on_data s.board)))
            viewed.settings);
        follow = ap (λ (r : Reply). r.follow) c.succeed.ensures;
        represents =
            subst (λ ds. R ds (conditional_where (data_list on_data) program s)) c.in_ok-kept.ensures
            (subst (R c.in_ok-kept.kept) found
            (c.keep_conditional.ensures _ (c.keep_data.ensures _ represents)));
      } in
      subst T c.as_slice-breakpoints.ensures told,
  search rules,
)
