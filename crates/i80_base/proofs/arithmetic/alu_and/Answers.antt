use Rattle.std.proofs.Common.{◌∙◌, refl}
use Rattle.i80_base.proofs.ArithmeticLemmas.{and_by_digits, auxiliary_by_or}
use Rattle.i80_base.proofs.arithmetic.alu_and.Goals as goal

pub returns : goal.returns
returns c =
    let value = and_by_digits c.args.x c.args.y c.ranges.x.fits c.ranges.y.fits in
    let ac = auxiliary_by_or c.args.x c.args.y in
    c.with_result.ensures ∙ (rw (ac, value) refl)
