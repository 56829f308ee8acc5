use Rattle.std.proofs.Common.{◌≡◌, take}
use Rattle.lab80_web.specs.Outputs.{connections_frame}
use Rattle.lab80_web.proofs.outputs.connections_frame.Given as goal

abbrev pub invariant-loop-connection : goal.invariant-loop-connection
invariant-loop-connection l = l.frame.items ≡ connections_frame (take l.connection-index l.connections)
