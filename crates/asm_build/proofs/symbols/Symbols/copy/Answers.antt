use Rattle.std.proofs.Common.{◌∙◌, ap, sym}
use Rattle.asm_build.specs.Texts.{place_in}
use Rattle.asm_build.proofs.NameLemmas.{copied, copied_places}
use Rattle.asm_build.proofs.symbols.Symbols.copy.Goals as goal

pub invariant_of-result : goal.invariant_of-result
invariant_of-result c = λ x.
    copied_places c.self.inside.places.entries c.in_ok-places.places.entries x c.in_ok-places.ensures.cases
    ∙ c.self.invariant x
    ∙ ap (λ es. place_in es x)
    (sym (copied c.self.inside.entries.items c.in_ok-entries.entries.items c.in_ok-entries.ensures.cases.0))

pub returns : goal.returns
returns c =
    copied c.self.inside.entries.items c.in_ok-entries.entries.items c.in_ok-entries.ensures.cases.0
    ∙ c.self.view_is
