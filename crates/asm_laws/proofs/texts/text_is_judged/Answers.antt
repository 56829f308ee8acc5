use Rattle.asm_laws.proofs.FirstFaults.{text_says, text_faulted}
use Rattle.asm_laws.proofs.texts.text_is_judged.Goals as goal

pub returns-clause-says : goal.returns-clause-says
returns-clause-says c = text_says

pub returns-clause-fault : goal.returns-clause-fault
returns-clause-fault c = text_faulted
