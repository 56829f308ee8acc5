use Rattle.std.proofs.Common.{◌∙◌, sym}
use Rattle.std.proofs.lemmas.Result.{on_ok_weaker}
use Rattle.dap_scopes.specs.Completions.{Completes, part_completions, symbol_completions}
use Rattle.dap_scopes.proofs.CompletionLemmas.{completes_both, values_of}
use Rattle.dap_scopes.proofs.completion.push_values.Goals as goal

pub returns : goal.returns
returns c =
    let word = c.args.word.now in
    let symbols = c.args.symbols.now in
    let parts : Completes word (part_completions word) c.args.items.now c.push_names.new.items =
    rw c.dollar_text-front.ensures at c.in_ok-push_names.ensures in
    rw (values_of word symbols (sym c.is_empty.ensures ∙ c.if-is_empty.false))
    (on_ok_weaker c.push_symbols.result
    (completes_both word (part_completions word) (symbol_completions symbols) _ _ _ parts)
    c.push_symbols.ensures)
