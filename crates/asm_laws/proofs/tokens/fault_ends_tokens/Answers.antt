use Rattle.asm_laws.proofs.Readings.{fault_broken}
use Rattle.asm_laws.proofs.tokens.fault_ends_tokens.Goals as goal

pub returns : goal.returns
returns c line f = fault_broken line f
