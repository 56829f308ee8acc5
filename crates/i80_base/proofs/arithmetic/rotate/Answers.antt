use Rattle.std.proofs.Common.{◌∙◌}
use Rattle.i80_base.proofs.ArithmeticLemmas.{rlc_by_bits, rrc_by_bits, ral_by_bits}
use Rattle.i80_base.proofs.arithmetic.rotate.Goals as goal

pub returns-in-Rlc : goal.returns-in-Rlc
returns-in-Rlc c = rw c.in-Rlc.is (c.with_turned.ensures ∙ rlc_by_bits c.args.a c.args.flags c.ranges.a.fits)

pub returns-in-Rrc : goal.returns-in-Rrc
returns-in-Rrc c = rw c.in-Rrc.is (c.with_turned-in-Rrc.ensures
    ∙ rrc_by_bits c.args.a c.args.flags c.ranges.a.fits)

pub returns-in-Ral : goal.returns-in-Ral
returns-in-Ral c = rw c.in-Ral.is (c.with_turned-in-Ral.ensures
    ∙ (rw c.carry.ensures (ral_by_bits c.args.a c.args.flags c.ranges.a.fits)))
