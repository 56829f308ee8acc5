use Rattle.asm_build.proofs.ValueLemmas.{not_false}
use Rattle.asm_build.proofs.layout.note_names.Goals as goal

pub returns-in-Some-operation-clause-used : goal.returns-in-Some-operation-clause-used
returns-in-Some-operation-clause-used c =
    rw (not_false _ c.if-not-row.false, c.in-Some-operation.is) c.note_late.ensures
