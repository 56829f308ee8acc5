use Rattle.std.proofs.Common.{sym, subst}
use Rattle.dap_run.specs.Boards.{board_result}
use Rattle.dap_session.specs.Represents.{RepresentsSession}
use Rattle.dap_session.proofs.StandsLemmas.{stands_finished}
use Rattle.dap_session.proofs.session.Session.finish.Goals as goal

pub returns-in-Ok : goal.returns-in-Ok
returns-in-Ok c = (
  λ s represents.
      let viewed : RepresentsSession _ s =
      subst (λ v. RepresentsSession v s) (sym c.self.view_is) represents in
      stands_finished c.args.code c.in-Ok.body (board_result c.args.command.now) s c.self.inside.lab
      c.perform_command.result _ c.end_run.new.self c.succeed.result c.in-Ok.is
      c.perform_command.ensures viewed.board viewed.settings c.end_run.ensures c.succeed.ensures,
  tt,
)
