use Rattle.dap_disassembly.proofs.DisassemblyLemmas.{names_operand}
use Rattle.dap_disassembly.proofs.laws.operand_is_named.Goals as goal

pub returns : goal.returns
returns c = names_operand
