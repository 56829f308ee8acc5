use Rattle.asm_laws.proofs.CellFaults.{gives, faulted, judged}
use Rattle.asm_laws.proofs.cells.cell_is_judged.Goals as goal

pub returns : goal.returns
returns c = λ kept ss. record { gives = gives kept ss; fault = faulted kept ss; judged = judged kept ss }
