use Rattle.std.proofs.Common.{◌≡◌, ◌∙◌, ◌+◌, Some, true, false, cond, drop, sym, ap, refl, List, ℕ}
use Rattle.asm_build.specs.declared.symbols.Symbol.{Symbol}
use Rattle.std.specs.Prelude.{option_map}
use Rattle.std.specs.List.{find}
use Rattle.lab_views.specs.Frames.{labels}
use Rattle.lab_views.proofs.ListLemmas.{find-next}
use Rattle.lab_views.proofs.names.label_of.Goals as goal
use Rattle.lab_views.proofs.names.label_of.Goals.{After-labels}

-- the symbol that is looked at
abbrev entry : After-labels → List ℕ × Symbol
entry c = (c.symbol_at.result.0.now, c.symbol_at.result.1)

-- the search, from this symbol on
looks_at : (c : After-labels) → find (labels c.args.address) c.args.symbols.now
    ≡ cond (labels c.args.address (entry c)) (Some (entry c))
    (find (labels c.args.address) (drop (c.loop-index.index + 1) c.args.symbols.now))
looks_at c =
    sym c.loop-index.invariant
    ∙ find-next (labels c.args.address) c.args.symbols.now c.loop-index.index (entry c) c.symbol_at.ensures

pub returns-then-labels : goal.returns-then-labels
returns-then-labels c =
    let at = (goal.at.returns-then-labels c).After-labels in
    let passes : labels c.args.address (entry at) ≡ true = sym c.labels.ensures ∙ c.if-labels.true in
    let found : find (labels c.args.address) c.args.symbols.now ≡ Some (entry at) =
    looks_at at ∙ rw passes refl in
    ap (option_map (λ e. e.0)) (sym found)

pub loop-index-preserved : goal.loop-index-preserved
loop-index-preserved c =
    let at = (goal.at.loop-index-preserved c).After-labels in
    let fails : labels c.args.address (entry at) ≡ false = sym c.labels.ensures ∙ c.if-labels.false in
    sym (looks_at at ∙ rw fails refl)
