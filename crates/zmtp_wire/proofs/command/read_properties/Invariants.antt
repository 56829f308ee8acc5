use Rattle.std.proofs.Common.{length, option_copied}
use Rattle.zmtp_wire.proofs.CommandLemmas.{Passed}
use Rattle.zmtp_wire.proofs.command.read_properties.Given as goal

abbrev pub invariant-loop-rest : goal.invariant-loop-rest
invariant-loop-rest l = Passed l.bytes l.rest (option_copied l.socket_type) (option_copied l.identity)

abbrev pub decreases-loop-rest : goal.decreases-loop-rest
decreases-loop-rest l = length l.rest
