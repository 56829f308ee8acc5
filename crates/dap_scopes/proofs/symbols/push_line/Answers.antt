use Rattle.std.proofs.Common.{◌≡◌, ◌∙◌, ◌∷◌, ◌++◌, [], string_bytes, ap}
use Rattle.std.proofs.lemmas.Result.{on_ok_weaker}
use Rattle.dap_scopes.specs.Symbols.{symbol_line}
use Rattle.dap_scopes.proofs.SymbolLemmas.{first_line, next_line}
use Rattle.dap_scopes.proofs.symbols.push_line.Goals as goal

pub returns : goal.returns
returns c lines many is =
    let line = symbol_line (c.args.name.now, c.args.symbol) in
    on_ok_weaker c.push_symbol-2.result
    (λ e. e
    ∙ ap (λ t. t ++ line) c.in_ok-push_str.ensures.bytes
    ∙ next_line lines (string_bytes c.args.text.now) line (λ none. c.if-count-eq0.false (many ∙ none)) is)
    c.push_symbol-2.ensures
