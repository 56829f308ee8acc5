use Rattle.dap_points.proofs.KindLemmas.{at_label, on_line, at_instruction}
use Rattle.dap_points.proofs.laws.numbers_tell_kinds.Goals as goal

pub returns-clause-label : goal.returns-clause-label
returns-clause-label c = at_label

pub returns-clause-line : goal.returns-clause-line
returns-clause-line c = on_line

pub returns-clause-instruction : goal.returns-clause-instruction
returns-clause-instruction c = at_instruction
