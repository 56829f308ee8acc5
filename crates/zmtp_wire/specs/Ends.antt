-- How a conversation with a peer ends.
use Rattle.std.specs.Prelude.{◌≡◌, ℕ, ◌≤◌, ◌⊎◌, true, false, [], ◌++◌, Some}
use Rattle.zmtp_wire.specs.declared.role.Role.{Role}
use Rattle.zmtp_wire.specs.declared.head.Stage.TheVariants.{Traffic}
use Rattle.zmtp_wire.specs.Stream.{DecoderState, HasReadMessages}
use Rattle.zmtp_wire.specs.Wire.{Bytes, Messages}
use Rattle.base_streams.specs.States.{InletState, OutletState, IsReadable, IsWritable}
use Rattle.base_streams.specs.Told.{Gave, WasRead}
use Rattle.zmtp_wire.specs.Receiving.{Received, most_reads}
use Rattle.zmtp_wire.specs.declared.handshake.Peer.{Peer}
use Rattle.zmtp_wire.specs.declared.peer_fault.PeerFault.{PeerFault}
use Rattle.zmtp_wire.specs.declared.peer_fault.PeerFault.TheVariants.{OutOfMemory, PeerEnded, ReadFailed}
use Rattle.zmtp_wire.specs.declared.peer_fault.PeerFault.TheVariants.{WriteFailed, Wire}

-- what each fault says about the reader and the writer
abbrev pub Blames : PeerFault → InletState → OutletState → Type 0
Blames OutOfMemory inlet outlet = IsReadable inlet × IsWritable outlet
Blames PeerEnded inlet outlet = (inlet.ended ≡ true) × (inlet.failed ≡ false) × IsWritable outlet
Blames ReadFailed inlet outlet = (inlet.ended ≡ false) × IsWritable outlet
Blames WriteFailed inlet outlet = IsReadable inlet × (outlet.failed ≡ true)
Blames (Wire cause) inlet outlet = IsReadable inlet × IsWritable outlet

-- what each fault says about the stream: some of it is unreceived only if memory ran out, and a broken stream
-- is broken with the fault's cause
abbrev pub Explains : PeerFault → DecoderState → Bytes → Type 0
Explains OutOfMemory decoder unreceived = Unit {0}
Explains (Wire cause) decoder unreceived = (unreceived ≡ []) × (decoder.fault ≡ Some cause)
Explains _ decoder unreceived = unreceived ≡ []

-- a failed read means that the reader failed, or that the last read was made
abbrev pub FailsBy : PeerFault → InletState → ℕ → Type 0
FailsBy ReadFailed inlet reads = (inlet.failed ≡ true) ⊎ (reads ≡ most_reads)
FailsBy _ inlet reads = Unit {0}

-- the reader gave bytes in so many reads; a decoder of this role received a prefix of them, with these
-- messages in it; and the fault says why not more
pub record Ends (role : Role) (old new : InletState) (fault : PeerFault) (decoder : DecoderState)
    (messages : Messages) : Type 0 where
  pub received : Bytes
  pub unreceived : Bytes
  pub gave : Gave old new (received ++ unreceived)
  pub role_is : decoder.role ≡ role
  pub represents : HasReadMessages decoder received messages
  pub explains : Explains fault decoder unreceived
  pub reads : ℕ
  pub was_read : WasRead old new reads
  pub within : reads ≤ most_reads
  pub fails_by : FailsBy fault new reads

-- the fault came from reading
abbrev pub EndsReading : PeerFault → Type 0
EndsReading OutOfMemory = ⊥
EndsReading WriteFailed = ⊥
EndsReading _ = Unit {0}

-- the reader ended or failed, as the fault says
abbrev pub Stops : PeerFault → InletState → Type 0
Stops PeerEnded inlet = (inlet.ended ≡ true) × (inlet.failed ≡ false)
Stops ReadFailed inlet = (inlet.ended ≡ false) × (inlet.failed ≡ true)
Stops _ inlet = ⊥

-- memory ran out or the writer failed, as the fault says
abbrev pub Refuses : PeerFault → OutletState → Type 0
Refuses OutOfMemory outlet = IsWritable outlet
Refuses WriteFailed outlet = outlet.failed ≡ true
Refuses _ outlet = ⊥

-- a handshake ended without a peer: where the fault came from reading, READY wasn't accepted
pub record NoPeer (role : Role) (old new : InletState) (fault : PeerFault) : Type 0 where
  pub decoder : DecoderState
  pub messages : Messages
  pub ends : Ends role old new fault decoder messages
  pub unready : EndsReading fault → decoder.stage ≡ Traffic → ⊥

-- if the first peer had received what the old reader gave, then the second has received what the new one gave
abbrev pub ReceivedOn : InletState → InletState → Peer → Peer → Type 0
ReceivedOn old new peer peer' = (before : InletState) → Received before old peer → Received before new peer'

-- if the peer had received what the old reader gave, then its handshake ends without a peer
abbrev pub LostPeer : InletState → InletState → Peer → PeerFault → Type 0
LostPeer old new peer fault =
    (before : InletState) → Received before old peer → NoPeer peer.decoder.role before new fault

-- the fault blames the reader alone: whatever the writer is, it isn't the cause
abbrev pub BlamesReader : InletState → PeerFault → Type 0
BlamesReader inlet fault = (outlet : OutletState) → IsWritable outlet → Blames fault inlet outlet
