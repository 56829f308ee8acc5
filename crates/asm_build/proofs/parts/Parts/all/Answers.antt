use Rattle.std.proofs.Common.{◌∙◌, ap, sym}
use Rattle.std.specs.List.{list_all}
use Rattle.asm_build.proofs.ListLemmas.{all_reverse}
use Rattle.asm_build.proofs.parts.Parts.all.Goals as goal

pub returns : goal.returns
returns c =
    c.are_true.ensures ∙ ap (list_all (λ b. b)) c.deref.ensures.value
    ∙ sym (all_reverse c.self.inside.selected.items) ∙ ap (list_all (λ b. b)) c.self.view_is
