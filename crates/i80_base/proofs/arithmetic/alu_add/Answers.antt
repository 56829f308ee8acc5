use Rattle.std.proofs.Common.{◌∙◌}
use Rattle.i80_base.proofs.ArithmeticLemmas.{sum_by_bits}
use Rattle.i80_base.proofs.arithmetic.alu_add.Goals as goal

pub returns : goal.returns
returns c = c.with_result.ensures ∙ sum_by_bits c.args.x c.args.y c.args.carry c.ranges.x.fits c.ranges.y.fits
