use Rattle.asm_build.proofs.ReadingLemmas.{found, only, same_reading}
use Rattle.asm_laws.proofs.cells.meaning_is_read.Goals as goal

pub returns : goal.returns
returns c = λ kept ss. record { found = found kept ss; only = only kept ss; one = same_reading kept ss }
