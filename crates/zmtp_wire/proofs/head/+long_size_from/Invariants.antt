use Rattle.zmtp_wire.proofs.head.+long_size_from.Given as goal

abbrev pub decreases-long_size_from : goal.decreases-long_size_from
decreases-long_size_from l = l.left
