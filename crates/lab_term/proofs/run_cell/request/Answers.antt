use Rattle.lab_term.specs.Stopping.{RequestPrefix}
use Rattle.lab_term.proofs.run_cell.request.Goals as goal

pub returns-in-Err-clause-front : goal.returns-in-Err-clause-front
returns-in-Err-clause-front g c = RequestPrefix _ _ c.in-Ok.ensures c.in-Err.ensures.front
