use Rattle.std.proofs.Common.{◌≡◌, ◌<◌, true, [], length, sym, ◌∙◌, subst}
use Rattle.std.specs.Str.{is_utf8}
use Rattle.cli_io.specs.TextState.{TextState, HasReadText}
use Rattle.cli_io.proofs.TextLemmas.{found_long, found_cut}
use Rattle.cli_io.proofs.text_input.TextInput.into_text.Goals as goal

pub returns-then-is_empty-clause-text : goal.returns-then-is_empty-clause-text
returns-then-is_empty-clause-text c text represents =
    let t = c.self.inside in
    let here = subst (λ (t : TextState). HasReadText t text) (sym c.self.view_is) represents in
    let long : t.is_long ≡ true = search in
    let none : t.kept.items ≡ [] = sym c.as_slice.ensures.value ∙ c.is_empty.ensures.yes c.if-is_empty.true in
    subst (λ (t : TextState). (is_utf8 text ≡ true) × (t.limit < length text)) c.self.view_is
    (found_long t.kept.items t.limit t.is_long text here long none)

pub returns-clause-text : goal.returns-clause-text
returns-clause-text c text represents =
    let t = c.self.inside in
    let here = subst (λ (t : TextState). HasReadText t text) (sym c.self.view_is) represents in
    let long : t.is_long ≡ true = search in
    found_cut t.kept.items t.limit t.is_long text here long
    (λ none. c.is_empty.ensures.no c.if-is_empty.false (c.as_slice.ensures.value ∙ none))
