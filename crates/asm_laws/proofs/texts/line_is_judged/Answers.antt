use Rattle.asm_laws.proofs.FirstFaults.{line_says, line_faulted}
use Rattle.asm_laws.proofs.texts.line_is_judged.Goals as goal

pub returns-clause-says : goal.returns-clause-says
returns-clause-says c = line_says

pub returns-clause-fault : goal.returns-clause-fault
returns-clause-fault c = line_faulted
