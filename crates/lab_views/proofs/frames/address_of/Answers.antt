use Rattle.std.proofs.Common.{◌<◌, refl, reverse, arith}
use Rattle.lab_views.proofs.StackLemmas.{site_before}
use Rattle.lab_views.proofs.frames.address_of.Goals as goal

pub returns : goal.returns
returns c =
    let further : 0 < c.args.index = omega arith in
    site_before c.args.parts.now.machine.now.regs.pc c.args.index c.in-Some.frame.site
    (reverse c.args.parts.now.frames.now)
    c.in-Some.frame further c.in-Some.ensures refl
