use Rattle.std.proofs.Common.{◌≡◌, ◌∙◌, ◌+◌, suc, refl, ap, arith}
use Rattle.dap_disassembly.specs.Targets.{earlier, target_among}
use Rattle.dap_disassembly.proofs.target.first_target.Goals as goal

pub loop-address-init : goal.loop-address-init
unfolding target_among
loop-address-init c = λ b represents. refl

pub loop-address-preserved : goal.loop-address-preserved
unfolding target_among
loop-address-preserved c = λ b represents.
    let before = target_among c.loop-address.address b c.args.line in
    let next : c.loop-address.address + 1 ≡ suc c.loop-address.address = omega arith in
    rw next (c.earlier-best.ensures
    ∙ (ap (λ t. earlier t c.target_at.result) (c.loop-address.invariant b represents)
    ∙ ap (λ t. earlier before t) (c.target_at.ensures b represents)))
