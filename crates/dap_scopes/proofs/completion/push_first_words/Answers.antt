use Rattle.dap_scopes.proofs.completion.push_first_words.Goals as goal

pub returns-then-is_first : goal.returns-then-is_first
returns-then-is_first c = rw c.if-is_first.true c.push_names.ensures
