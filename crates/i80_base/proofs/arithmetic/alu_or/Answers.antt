use Rattle.std.proofs.Common.{◌∙◌, ap, false}
use Rattle.i80_base.specs.Arithmetic.{with_flags}
use Rattle.i80_base.proofs.ArithmeticLemmas.{or_by_digits}
use Rattle.i80_base.proofs.arithmetic.alu_or.Goals as goal

pub returns : goal.returns
returns c = c.with_result.ensures
    ∙ ap (λ v. with_flags v false false) (or_by_digits c.args.x c.args.y c.ranges.x.fits c.ranges.y.fits)
