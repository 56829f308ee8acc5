use Rattle.std.proofs.Common.{◌∙◌, refl, ap, length}
use Rattle.i80_exec.proofs.MemoryLemmas.{zeros_are, length-zeros}
use Rattle.i80_exec.proofs.machine.Machine.new.Goals as goal

pub invariant_of-result : goal.invariant_of-result
invariant_of-result c = ap length (c.in_ok-memory.ensures ∙ zeros_are) ∙ length-zeros

pub returns : goal.returns
returns c = let cleared = c.in_ok-memory.ensures ∙ zeros_are in rw (c.all_clear.ensures, cleared) refl
