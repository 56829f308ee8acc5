use Rattle.dap_run.specs.Boards.{board_result}
use Rattle.dap_session.proofs.StandsLemmas.{stands_performed}
use Rattle.dap_session.proofs.session.Session.do_command.Goals as goal

pub invariant_of-self : goal.invariant_of-self
invariant_of-self c =
    stands_performed (board_result c.args.command.now) _ _ _ c.perform_command.ensures c.self.invariant
