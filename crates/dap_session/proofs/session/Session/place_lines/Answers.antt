use Rattle.std.proofs.Common.{◌∙◌, List, ap, subst, rules}
use Rattle.dap_messages.specs.declared.message.EditorBody.TheVariants.{Breakpoints}
use Rattle.dap_messages.specs.declared.message.EditorOutcome.TheVariants.{Success}
use Rattle.dap_messages.specs.declared.message.PlacedBreakpoint.{PlacedBreakpoint}
use Rattle.dap_run.specs.declared.reply.Reply.{Reply}
use Rattle.dap_points.specs.Points.{with_lines}
use Rattle.dap_slice.specs.declared.conditions.ConditionalBreakpoint.{ConditionalBreakpoint}
use Rattle.dap_session.specs.States.{with_board, with_points, with_conditional}
use Rattle.dap_run.specs.Programs.{program_at}
use Rattle.dap_session.specs.Breakpoints.{armed_where, kept_or, lines_wanted}
use Rattle.dap_session.specs.Represents.{RepresentsSession}
use Rattle.dap_session.proofs.session.Session.place_lines.Goals as goal

pub returns : goal.returns
returns c = (
  λ s represents. record {
    outcome =
        ap (λ (r : Reply). r.outcome) c.succeed.ensures
        ∙ ap (λ (found : List PlacedBreakpoint). Success (Breakpoints found))
        (c.in_ok-points.ensures s represents);
    follow = ap (λ (r : Reply). r.follow) c.succeed.ensures;
    represents =
        let armed = c.in_ok-conditional.ensures.ok s represents in
        let l = c.args.source in
        let program = program_at l.path s.settings.program in
        let board = armed_where program (lines_wanted l s.settings.points) s.board in
        let R : List ConditionalBreakpoint → Type 0 =
        λ points. RepresentsSession c.keep_conditional.new.self
        (with_points (with_lines l.path l.lines s.settings.points)
        (with_conditional points (with_board board s))) in
        let number = c.list_number-number.ensures.number s represents in
        subst R (ap (λ n. kept_or n c.in_ok-conditional.conditional s.settings.conditional) number ∙ armed.0)
        (c.keep_conditional.ensures _ (c.keep_lines.ensures _ armed.1));
  },
  search rules,
)
