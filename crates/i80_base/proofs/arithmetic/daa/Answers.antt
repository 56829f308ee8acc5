use Rattle.std.proofs.Common.{◌∙◌}
use Rattle.i80_base.proofs.ArithmeticLemmas.{adjusted_by_bits}
use Rattle.i80_base.proofs.arithmetic.daa.Goals as goal

pub returns : goal.returns
returns c = c.with_result.ensures
    ∙ (rw (c.auxiliary_carry.ensures, c.carry.ensures)
    (adjusted_by_bits c.args.a c.args.flags c.ranges.a.fits))
