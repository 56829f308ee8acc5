use Rattle.std.proofs.Common.{◌∙◌, ◌∷◌, ◌++◌, [], refl, sym, ap, map, List, ℕ}
use Rattle.std.proofs.lemmas.List.{map-append}
use Rattle.asm_build.specs.declared.symbols.Symbol.{Symbol}
use Rattle.lab_views.proofs.ListLemmas.{page_more, page_done}
use Rattle.dap_scopes.specs.Rows.{symbol_row}
use Rattle.dap_scopes.proofs.rows.symbols.Goals as goal

pub loop-index-preserved : goal.loop-index-preserved
loop-index-preserved c =
    let symbols = c.args.symbols.now in
    let row = symbol_row c.args.format in
    let e : List ℕ × Symbol = (c.symbol_at.result.0.now, c.symbol_at.result.1) in
    let one = page_more symbols c.args.start c.loop-index.index e c.loop-index.auto.index
    c.symbol_at.ensures in
    c.in_ok-push_symbol.ensures
    ∙ ap (λ made. made ++ row e ∷ []) c.loop-index.invariant
    ∙ sym (ap (map row) one ∙ map-append row _ (e ∷ []))

pub returns : goal.returns
returns c =
    c.loop-index.invariant
    ∙ ap (map (symbol_row c.args.format)) (page_done c.args.symbols.now c.args.start c.args.count c.args.count
    c.len.result c.end_of-end.result c.loop-index.index refl c.len.ensures c.end_of-end.ensures.end
    c.loop-index.auto.index c.loop-index-test.false c.loop-index.auto.index-end)
