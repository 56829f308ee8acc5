use Rattle.std.proofs.Common.{refl, ap, ◌∙◌}
use Rattle.i80_base.specs.Rows.{first_instruction}
use Rattle.i80_rows.proofs.DecodeLemmas.{read_found, encoded_read}
use Rattle.i80_rows.proofs.decoding.decode.Goals as goal

pub returns-clause-found : goal.returns-clause-found
returns-clause-found c = rw (c.decode_on.ensures.strict refl) (read_found c.args.bytes.now)

pub returns-clause-only : goal.returns-clause-only
returns-clause-only c i code rest encodes split = c.decode_on.ensures.strict refl ∙ ap first_instruction split
    ∙ encoded_read i code rest encodes

pub returns-clause-table : goal.returns-clause-table
returns-clause-table c = c.decode_on.ensures.strict refl
