use Rattle.std.proofs.Common.{[]}
use Rattle.dap_scopes.specs.Completions.{first_words, value_names}
use Rattle.dap_scopes.proofs.CompletionLemmas.{completes_both}
use Rattle.dap_scopes.proofs.completion.completions_for.Goals as goal

pub returns : goal.returns
returns c =
    completes_both c.args.word.now (value_names c.args.word.now c.args.symbols.now) (first_words
    c.args.is_first)
    _ _ _ c.in_ok-push_values.ensures c.in_ok-push_first_words.ensures [] c.new-items.ensures
