use Rattle.std.proofs.Common.{◌∙◌}
use Rattle.i80_base.proofs.ArithmeticLemmas.{increment_by_bits}
use Rattle.i80_base.proofs.arithmetic.inr.Goals as goal

pub returns : goal.returns
returns c = c.with_result.ensures ∙ increment_by_bits c.args.x c.args.carry c.ranges.x.fits
