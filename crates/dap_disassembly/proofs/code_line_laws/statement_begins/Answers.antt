use Rattle.dap_disassembly.proofs.CodeLineLemmas as lemmas
use Rattle.dap_disassembly.proofs.code_line_laws.statement_begins.Goals as goal

pub returns : goal.returns
returns c = lemmas.statement_begins
