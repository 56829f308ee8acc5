use Rattle.std.proofs.Common.{◌∙◌, List, ap, subst, rules}
use Rattle.dap_slice.specs.declared.conditions.ConditionalBreakpoint.{ConditionalBreakpoint}
use Rattle.dap_messages.specs.declared.message.EditorBody.TheVariants.{Breakpoints}
use Rattle.dap_messages.specs.declared.message.EditorOutcome.TheVariants.{Success}
use Rattle.dap_messages.specs.declared.message.PlacedBreakpoint.{PlacedBreakpoint}
use Rattle.dap_requests.specs.declared.request.FunctionBreakpoint.{FunctionBreakpoint}
use Rattle.dap_run.specs.declared.reply.Reply.{Reply}
use Rattle.dap_session.specs.States.{with_board, with_points, with_conditional}
use Rattle.dap_session.specs.Breakpoints.{armed_where, conditional_where, labels_list, labels_wanted}
use Rattle.dap_session.specs.Breakpoints.{setting_functions}
use Rattle.dap_session.specs.Represents.{RepresentsSession, Replies}
use Rattle.dap_session.proofs.session.Session.set_functions.Goals as goal

pub returns : goal.returns
returns c = (
  λ s represents.
      let labels = c.as_slice-labels.result.now in
      let armed = c.in_ok-conditional.ensures.ok s represents in
      let p = s.settings.points in
      let program = s.settings.program in
      let R : List FunctionBreakpoint → List ConditionalBreakpoint → Type 0 =
      λ fs points. RepresentsSession c.keep_conditional.new.self
      (with_points (record p { functions = fs })
      (with_conditional points (with_board (armed_where program (labels_wanted labels p) s.board) s))) in
      let T : List FunctionBreakpoint → Type 0 =
      λ fs. Replies (setting_functions fs s) c.succeed.result c.keep_conditional.new.self in
      let told : T labels = record {
        outcome =
            ap (λ (r : Reply). r.outcome) c.succeed.ensures
            ∙ ap (λ (found : List PlacedBreakpoint). Success (Breakpoints found))
            (c.in_ok-points.ensures s represents);
        follow = ap (λ (r : Reply). r.follow) c.succeed.ensures;
        represents =
            subst (λ fs. R fs (conditional_where (labels_list labels) program s)) c.in_ok-kept.ensures
            (subst (R c.in_ok-kept.kept) armed.0
            (c.keep_conditional.ensures _ (c.keep_functions.ensures _ armed.1)));
      } in
      subst T c.as_slice-labels.ensures told,
  search rules,
)
