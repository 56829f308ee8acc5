use Rattle.std.proofs.Common.{◌∙◌, ◌∷◌, ◌++◌, [], sym, ap, List, ℕ}
use Rattle.std.specs.Prelude.{option_map}
use Rattle.std.proofs.lemmas.Option.{slice_get-map}
use Rattle.std.proofs.lemmas.List.{length-map}
use Rattle.asm_build.specs.declared.symbols.Symbol.{Symbol}
use Rattle.lab_views.specs.Paging.{asked_for}
use Rattle.lab_views.specs.Variables.{symbol_variable, symbol_variables}
use Rattle.lab_views.proofs.ListLemmas.{page_more, page_done}
use Rattle.lab_views.proofs.variables.symbols.Goals as goal

pub loop-index-preserved : goal.loop-index-preserved
loop-index-preserved c =
    let e : List ℕ × Symbol = (c.symbol_at.result.0.now, c.symbol_at.result.1) in
    let item = slice_get-map symbol_variable c.args.symbols.now c.loop-index.index
    ∙ ap (option_map symbol_variable) c.symbol_at.ensures in
    c.in_ok-push_word.ensures
    ∙ ap (λ made. made ++ symbol_variable e ∷ []) c.loop-index.invariant
    ∙ sym (page_more (symbol_variables c.args.symbols.now) c.args.start c.loop-index.index
    (symbol_variable e) c.loop-index.auto.index item)

pub returns : goal.returns
returns c =
    let len = c.len.ensures ∙ sym (length-map c.args.symbols.now symbol_variable) in
    c.loop-index.invariant
    ∙ page_done (symbol_variables c.args.symbols.now) c.args.start (asked_for 256 256 c.args.count)
    c.asked_for-most.result
    c.len.result c.end_of-end.result c.loop-index.index c.asked_for-most.ensures len c.end_of-end.ensures.end
    c.loop-index.auto.index c.loop-index-test.false c.loop-index.auto.index-end
