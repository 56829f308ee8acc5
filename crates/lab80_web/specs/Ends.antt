-- The exit status of the program.
use Rattle.cli_io.specs.declared.status.Status.{Status}
use Rattle.cli_io.specs.declared.status.Status.TheVariants.{Success, Refused, OutOfMemory, Failed}
use Rattle.zmtp_wire.specs.declared.peer_fault.PeerFault.{PeerFault}
use Rattle.zmtp_wire.specs.declared.peer_fault.PeerFault.TheVariants as peer

abbrev pub status_of : PeerFault → Status
status_of peer.PeerEnded = Success
status_of (peer.Wire cause) = Refused
status_of peer.OutOfMemory = OutOfMemory
status_of peer.ReadFailed = Failed
status_of peer.WriteFailed = Failed
