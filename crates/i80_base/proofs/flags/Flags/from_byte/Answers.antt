use Rattle.i80_base.proofs.FlagLemmas.{masked_byte, masked_flags}
use Rattle.i80_base.proofs.flags.Flags.from_byte.Goals as goal

pub invariant_of-result : goal.invariant_of-result
invariant_of-result c = masked_byte c.args.byte c.ranges.byte.fits

pub returns : goal.returns
returns c = masked_flags c.args.byte c.ranges.byte.fits
