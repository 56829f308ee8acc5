use Rattle.dap_scopes.proofs.rows.registers.Goals as goal

pub returns : goal.returns
returns c =
    rw (
      c.word_of.ensures,
      c.word_of-2.ensures,
      c.word_of-3.ensures,
      c.word_of-4.ensures,
      c.to_byte.ensures,
    ) at c.value_rows.ensures
