-- What `run_cell` returns.
use Rattle.std.specs.Prelude.{◌≡◌, Result, IfOk, IfErr}
use Rattle.lab_term.specs.declared.cell.Cell.{Cell}
use Rattle.lab_term.specs.declared.cell.CellEnd.{CellEnd}
use Rattle.lab_term.specs.declared.fault.TermFault.{TermFault}
use Rattle.lab_term.specs.Causes.{Causes}
use Rattle.lab_term.specs.Connections.{Client}
use Rattle.lab_term.specs.Running.{Ran, cell_end}
use Rattle.lab_term.specs.Stopping.{Stopped}

-- running this cell has this result, and takes the client's connections from old to new
pub record RunsCell (cell : Cell) (old new : Client) (result : Result CellEnd TermFault) : Type 0 where
  pub ran : IfOk result (λ end. (ran : Ran cell old new) × (end ≡ cell_end ran))
  pub stopped : IfErr result (Stopped cell old new)
  pub cause : IfErr result (Causes cell.key.now old new)
