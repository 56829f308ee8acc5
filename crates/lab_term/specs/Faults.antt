-- Why a cell wasn't run to its end.
use Rattle.std.specs.Prelude.{Option, Some, None, codes}
use Rattle.base_text.specs.Bytes.{Text}
use Rattle.zmtp_wire.specs.declared.peer_fault.PeerFault.{PeerFault}
use Rattle.zmtp_wire.specs.declared.peer_fault.PeerFault.TheVariants as peer
use Rattle.lab_term.specs.declared.fault.TermFault.{TermFault}
use Rattle.lab_term.specs.declared.fault.TermFault.TheVariants as term
use Rattle.lab_term.specs.declared.fault.WireCause.TheVariants.{Stream}

-- the fault of the client for the fault of a conversation with a peer
abbrev pub term_fault_of : PeerFault → TermFault
term_fault_of peer.OutOfMemory = term.OutOfMemory
term_fault_of peer.PeerEnded = term.Ended
term_fault_of peer.ReadFailed = term.ReadFailed
term_fault_of peer.WriteFailed = term.WriteFailed
term_fault_of (peer.Wire cause) = term.Wire (Stream cause)

-- the text of a fault; that of `Wire` is its cause's
abbrev pub message_of : TermFault → Option Text
message_of term.OutOfMemory = Some (codes "out of memory")
message_of term.Ended = Some (codes "the kernel ended the connection")
message_of term.ReadFailed = Some (codes "a read failed")
message_of term.WriteFailed = Some (codes "a write failed")
message_of (term.Wire cause) = None
