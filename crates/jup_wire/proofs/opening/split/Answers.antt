use Rattle.std.proofs.Common.{◌+◌, ◌<◌, length, arith, ◌∙◌, subst}
use Rattle.jup_wire.specs.Wire.{LacksFrames}
use Rattle.jup_wire.proofs.WireLemmas.{too_few}
use Rattle.jup_wire.proofs.opening.split.Goals as goal

pub returns-then-len-at-lt6-clause-refused : goal.returns-then-len-at-lt6-clause-refused
returns-then-len-at-lt6-clause-refused c key =
    let few : length c.as_slice.result.now < c.in-Some.at + 6 = omega arith in
    subst LacksFrames (c.as_slice.ensures.value ∙ c.into_vec-frames.ensures)
    (too_few _ _ c.in-Some.ensures.inside c.in-Some.ensures.found few)
