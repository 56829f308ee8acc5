use Rattle.dap_breakpoints.proofs.PlaceLemmas as lemmas
use Rattle.dap_breakpoints.proofs.laws.ids_are_read.Goals as goal

pub returns-clause-bytes : goal.returns-clause-bytes
returns-clause-bytes c = lemmas.bytes_back
