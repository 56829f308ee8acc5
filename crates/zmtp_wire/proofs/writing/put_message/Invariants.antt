use Rattle.std.proofs.Common.{◌≡◌, ◌++◌, length}
use Rattle.zmtp_wire.specs.Writing.{message_bytes}
use Rattle.zmtp_wire.proofs.writing.put_message.Given as goal

abbrev pub invariant-loop-frame : goal.invariant-loop-frame
invariant-loop-frame l = l.out.items ++ message_bytes l.rest ≡ message_bytes l.frames

abbrev pub decreases-loop-frame : goal.decreases-loop-frame
decreases-loop-frame l = length l.rest
