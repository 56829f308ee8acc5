use Rattle.std.proofs.Common.{◌≡◌, ◌∙◌, List, refl, sym, ap, subst, Some}
use Rattle.lab_core.specs.Labs.{RepresentsBoard}
use Rattle.dap_session.specs.declared.settings.SessionSettings.{SessionSettings}
use Rattle.dap_run.specs.declared.program.Program.{Program}
use Rattle.dap_slice.specs.declared.conditions.ConditionalBreakpoint.{ConditionalBreakpoint}
use Rattle.dap_breakpoints.specs.Arming.{program_board, program_conditions}
use Rattle.dap_launch.specs.Programs.{board_if, begun_if}
use Rattle.dap_session.specs.States.{with_board, with_program, with_conditional}
use Rattle.dap_session.specs.Represents.{RepresentsSession}
use Rattle.dap_session.proofs.session.Session.install.Goals as goal

pub returns-clause-installed : goal.returns-clause-installed
returns-clause-installed c = λ s b represents on.
    let viewed : RepresentsSession _ s = subst (λ v. RepresentsSession v s) (sym c.self.view_is) represents in
    let p = c.args.loaded.program in
    let points = c.in_ok-points.points in
    let B : SessionSettings → Type 0 = λ t. (points ≡ program_conditions p t.points b)
    × RepresentsBoard c.arm_program.new.lab (program_board p t.points b) in
    let armed : B s.settings = subst B viewed.settings (c.in_ok-points.ensures.ok b on) in
    let Q : SessionSettings → Type 0 =
    λ t. RepresentsBoard c.begin_if.new.loaded.lab
    (board_if t.is_configured p (program_board p s.settings.points b)) in
    let begun = subst Q viewed.settings (c.in_ok-begin_if.ensures.board _ armed.1) in
    let put = c.put.ensures s _ represents begun in
    let program : Program = begun_if s.settings.is_configured p in
    let is = c.in_ok-begin_if.ensures.program in
    let R : List ConditionalBreakpoint → Program → Type 0 =
    λ ps q. RepresentsSession c.put.new.self
    (with_board (board_if s.settings.is_configured p (program_board p s.settings.points b))
    (with_conditional ps (with_program (Some q) s))) in
    record {
      messages = c.in_ok-messages.ensures s b represents on;
      effect = refl;
      represents =
          subst (λ ps. R ps program) armed.0
          (subst (R points)
          (is ∙ ap (λ (t : SessionSettings). begun_if t.is_configured p) viewed.settings) put);
    }
