use Rattle.std.proofs.Common.{◌-◌}
use Rattle.zmtp_wire.proofs.head.+first_broken_from.Given as goal

abbrev pub decreases-first_broken_from : goal.decreases-first_broken_from
decreases-first_broken_from l = 32 - l.place
