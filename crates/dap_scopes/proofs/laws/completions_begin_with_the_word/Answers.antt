use Rattle.dap_scopes.proofs.CompletionLemmas.{all_begin, few_completions}
use Rattle.dap_scopes.specs.Completions.{candidates, is_first, word_of}
use Rattle.dap_scopes.proofs.laws.completions_begin_with_the_word.Goals as goal

pub returns-clause-begin : goal.returns-clause-begin
returns-clause-begin c = λ before symbols.
    all_begin (word_of before) (candidates (word_of before) symbols (is_first before))

pub returns-clause-few : goal.returns-clause-few
returns-clause-few c = λ before symbols.
    few_completions (word_of before) (candidates (word_of before) symbols (is_first before))
