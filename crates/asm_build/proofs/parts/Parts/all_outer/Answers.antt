use Rattle.std.proofs.Common.{◌≡◌, ◌∙◌, ◌-◌, suc, length, take, ap, sym, arith}
use Rattle.std.specs.List.{list_all}
use Rattle.asm_build.specs.Reading.{outer}
use Rattle.asm_build.proofs.ListLemmas.{all_reverse, outer_reverse}
use Rattle.asm_build.proofs.parts.Parts.all_outer.Goals as goal

pub returns : goal.returns
returns c =
    let n = c.len-open.result - 1 in
    let some : c.len-open.result ≡ 0 → ⊥ = c.if-open-eq0.false in
    let long : length c.self.inside.selected.items ≡ suc n = omega (arith, some, c.len-open.ensures) in
    c.are_true.ensures
    ∙ ap (list_all (λ b. b)) (c.split_at.ensures.front ∙ ap (take n) c.as_slice.ensures.value)
    ∙ sym (all_reverse (take n c.self.inside.selected.items))
    ∙ ap (list_all (λ b. b)) (outer_reverse c.self.inside.selected.items n long ∙ ap outer c.self.view_is)
