use Rattle.asm_laws.proofs.Readings.{tokens_spelled}
use Rattle.asm_laws.proofs.tokens.tokens_are_spelled.Goals as goal

pub returns : goal.returns
returns c line ps = tokens_spelled line ps
