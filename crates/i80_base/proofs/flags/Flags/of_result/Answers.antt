use Rattle.i80_base.proofs.TableLemmas.{shown_byte, shown_flags}
use Rattle.i80_base.proofs.flags.Flags.of_result.Goals as goal

pub invariant_of-result : goal.invariant_of-result
invariant_of-result c = shown_byte c.args.auxiliary_carry c.args.carry c.args.value c.ranges.value.fits

pub returns : goal.returns
returns c = shown_flags c.args.auxiliary_carry c.args.carry c.args.value c.ranges.value.fits
