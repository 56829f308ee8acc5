-- How a pump ends when its peer or a call fails.
use Rattle.kern_calls.specs.declared.fault.KernelFault.{KernelFault}
use Rattle.kern_calls.specs.declared.fault.KernelFault.TheVariants as fault
use Rattle.zmtp_wire.specs.declared.peer_fault.PeerFault.{PeerFault}
use Rattle.zmtp_wire.specs.declared.peer_fault.PeerFault.TheVariants as peer
use Rattle.kern_net.specs.declared.end.PumpEnd.{PumpEnd}
use Rattle.kern_net.specs.declared.end.PumpEnd.TheVariants as end

abbrev pub end_by_peer : PeerFault → PumpEnd
end_by_peer peer.OutOfMemory = end.OutOfMemory
end_by_peer peer.PeerEnded = end.PeerEnded
end_by_peer peer.ReadFailed = end.ReadFailed
end_by_peer peer.WriteFailed = end.WriteFailed
end_by_peer (peer.Wire cause) = end.Wire cause

abbrev pub end_by_kernel : KernelFault → PumpEnd
end_by_kernel fault.OutOfMemory = end.OutOfMemory
end_by_kernel fault.JournalFull = end.JournalFull
end_by_kernel (fault.Lagged first) = end.Lagged
end_by_kernel fault.Full = end.Refused fault.Full
end_by_kernel fault.NoConnection = end.Refused fault.NoConnection
