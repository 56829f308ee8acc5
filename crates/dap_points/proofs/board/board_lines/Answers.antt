use Rattle.dap_points.proofs.BoardLemmas.{few}
use Rattle.dap_points.proofs.board.board_lines.Goals as goal

pub returns-clause-few : goal.returns-clause-few
returns-clause-few c = rw c.truncate.ensures (few _)
