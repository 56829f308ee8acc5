use Rattle.std.proofs.Common.{◌≡◌, ◌∙◌, ◌-◌, false, suc, length, ap, arith}
use Rattle.std.proofs.lemmas.List.{get_or_read}
use Rattle.asm_build.specs.Reading.{switch_innermost}
use Rattle.asm_build.proofs.ListLemmas.{switched_reverse}
use Rattle.asm_build.proofs.parts.Parts.switch.Goals as goal

pub returns-then-open-gt0 : goal.returns-then-open-gt0
returns-then-open-gt0 c =
    let n = c.len-open.result - 1 in
    let xs = c.self.inside.selected.items in
    let long : length xs ≡ suc n = omega (arith, c.len-open.ensures) in
    switched_reverse xs n c.index.result.now long
    (get_or_read xs _ _ (omega (arith, long)) c.index.ensures false)
    ∙ ap switch_innermost c.self.view_is
