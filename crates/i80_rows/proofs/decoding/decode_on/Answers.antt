use Rattle.std.proofs.Common.{◌∙◌}
use Rattle.i80_rows.proofs.AliasLemmas.{strict-read}
use Rattle.i80_rows.proofs.decoding.decode_on.Goals as goal

pub returns-clause-strict : goal.returns-clause-strict
returns-clause-strict c = λ strict. c.read_instruction.ensures ∙ rw strict (strict-read c.args.bytes.now)
