-- Why a cell wasn't run to its end.
use Rattle.std.specs.Prelude.{◌≡◌, ◌⊎◌, true, ◌∷◌, ◌++◌, Some}
use Rattle.base_streams.specs.States.{InletState, OutletState, IsReadable}
use Rattle.base_streams.specs.Told.{WasRead}
use Rattle.zmtp_wire.specs.declared.fault.StreamFault.{StreamFault}
use Rattle.zmtp_wire.specs.declared.role.Role.{Role}
use Rattle.zmtp_wire.specs.declared.role.Role.TheVariants.{Dealer, Sub}
use Rattle.zmtp_wire.specs.Wire.{Bytes, Frames, Messages}
use Rattle.jup_wire.specs.declared.message.WireFault.{WireFault}
use Rattle.zmtp_wire.specs.declared.peer_fault.PeerFault.{PeerFault}
use Rattle.zmtp_wire.specs.declared.peer_fault.PeerFault.TheVariants as peer
use Rattle.zmtp_wire.specs.Ends.{Blames, NoPeer}
use Rattle.zmtp_wire.specs.Receiving.{Received, most_reads}
use Rattle.zmtp_wire.specs.declared.handshake.Peer.{Peer}
use Rattle.lab_term.specs.declared.fault.TermFault.{TermFault}
use Rattle.lab_term.specs.declared.fault.TermFault.TheVariants.{OutOfMemory, Ended, ReadFailed, WriteFailed}
use Rattle.lab_term.specs.declared.fault.TermFault.TheVariants.{Wire}
use Rattle.lab_term.specs.declared.fault.WireCause.TheVariants.{Stream, Message}
use Rattle.lab_term.specs.Connections.{Ports, Client}
use Rattle.lab_term.specs.Events.{IsUnopened}
use Rattle.lab_term.specs.Faults.{term_fault_of}

-- the reader failed, or the last read was made
abbrev pub FailsReading : InletState → InletState → Type 0
FailsReading from from' = (from'.failed ≡ true) ⊎ WasRead from from' most_reads

-- the handshake as this role refused the peer for this cause
abbrev pub RefusesPeer : Role → InletState → InletState → StreamFault → Type 0
RefusesPeer role from from' cause = NoPeer role from from' (peer.Wire cause)

-- what the reader gave breaks the stream with this fault
pub record Breaks (from from' : InletState) (cause : StreamFault) : Type 0 where
  pub peer : Peer
  pub received : Received from from' peer
  pub broken : peer.decoder.fault ≡ Some cause

-- a message that was received doesn't open under the key
pub record ReceivesUnopened (key : Bytes) (from from' : InletState) (cause : WireFault) : Type 0 where
  pub peer : Peer
  pub received : Received from from' peer
  pub earlier : Messages
  pub frames : Frames
  pub others : Messages
  pub messages_are : peer.messages ≡ earlier ++ frames ∷ others
  pub unopened : IsUnopened key frames (Wire (Message cause))

-- the handshake as this role failed: why, and what was read of the peer
pub record Ungreeted (role : Role) (old new : Ports) (fault : TermFault) : Type 0 where
  pub cause : PeerFault
  pub fault_is : fault ≡ term_fault_of cause
  pub blames : Blames cause new.from new.to
  pub lost : NoPeer role old.from new.from cause

-- why a message wasn't sent: memory ran out, or the writer failed
abbrev pub Unsent : OutletState → TermFault → Type 0
Unsent to OutOfMemory = Unit {0}
Unsent to WriteFailed = to.failed ≡ true
Unsent to _ = ⊥

-- a stream is broken
abbrev pub IsBroken : TermFault → Type 0
IsBroken (Wire (Stream cause)) = Unit {0}
IsBroken _ = ⊥

-- why no more messages were taken, as the reader and the printer show
abbrev pub Stalls : Bytes → InletState → InletState → OutletState → TermFault → Type 0
Stalls key from from' to OutOfMemory = IsReadable from'
Stalls key from from' to Ended = from'.ended ≡ true
Stalls key from from' to ReadFailed = FailsReading from from'
Stalls key from from' to WriteFailed = to.failed ≡ true
Stalls key from from' to (Wire (Stream cause)) = Breaks from from' cause
Stalls key from from' to (Wire (Message cause)) = ReceivesUnopened key from from' cause

-- what each fault says about the readers, the writers, and the outlet that is printed to
abbrev pub Causes : Bytes → Client → Client → TermFault → Type 0
Causes key old new OutOfMemory = IsReadable new.shell.from × IsReadable new.iopub.from
Causes key old new Ended = (new.shell.from.ended ≡ true) ⊎ (new.iopub.from.ended ≡ true)
Causes key old new ReadFailed =
    FailsReading old.shell.from new.shell.from ⊎ FailsReading old.iopub.from new.iopub.from
Causes key old new WriteFailed =
    (new.shell.to.failed ≡ true) ⊎ ((new.iopub.to.failed ≡ true) ⊎ (new.output.failed ≡ true))
Causes key old new (Wire (Stream cause)) =
    RefusesPeer Dealer old.shell.from new.shell.from cause
    ⊎ (RefusesPeer Sub old.iopub.from new.iopub.from cause ⊎ Breaks old.iopub.from new.iopub.from cause)
Causes key old new (Wire (Message cause)) = ReceivesUnopened key old.iopub.from new.iopub.from cause
