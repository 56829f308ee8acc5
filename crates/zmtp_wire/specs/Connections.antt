-- What `handshake` and `heartbeat` do to a connection.
use Rattle.std.specs.Prelude.{◌≡◌, ◌⊎◌, Result, IfOk, IfErr, OnOk}
use Rattle.base_streams.specs.States.{InletState, OutletState, IsReadable, IsWritable}
use Rattle.zmtp_wire.specs.declared.role.Role.{Role}
use Rattle.zmtp_wire.specs.declared.role.Role.TheVariants.{Rep}
use Rattle.zmtp_wire.specs.declared.head.Stage.TheVariants.{Traffic}
use Rattle.zmtp_wire.specs.declared.handshake.Peer.{Peer}
use Rattle.zmtp_wire.specs.declared.peer_fault.PeerFault.{PeerFault}
use Rattle.zmtp_wire.specs.Stream.{DecoderState}
use Rattle.zmtp_wire.specs.Wire.{Messages}
use Rattle.zmtp_wire.specs.Receiving.{Received}
use Rattle.zmtp_wire.specs.Ends.{Blames, Ends, NoPeer}
use Rattle.zmtp_wire.specs.Sending.{Echoes, WroteGreeting, WrotePrefix, WroteWhole}

-- the two directions of a connection: what is read from the peer, and what is written to it
pub record Connection : Type 0 where
  pub inlet : InletState
  pub outlet : OutletState

-- the connection of this reader and this writer
abbrev pub connection : InletState → OutletState → Connection
connection inlet outlet = record { inlet = inlet; outlet = outlet }

-- a side of this role makes the handshake, which takes the connection from old to new and has this result
pub record MakesHandshake (side : Role) (old new : Connection) (result : Result Peer PeerFault) : Type 0 where
  -- the peer has read what the reader gave, and holds the messages in it
  pub received : IfOk result (Received old.inlet new.inlet)
  pub ready : IfOk result (λ peer. peer.decoder.stage ≡ Traffic)
  pub role : IfOk result (λ peer. peer.decoder.role ≡ side)
  -- nothing is read before the greeting is written: unless the writer took all of it, the reader is as it was
  pub greets_first : (new.inlet ≡ old.inlet) ⊎ WroteGreeting old.outlet new.outlet
  pub front : WrotePrefix old.outlet new.outlet side
  pub whole : OnOk result (WroteWhole old.outlet new.outlet side)
  pub good : OnOk result (IsReadable new.inlet × IsWritable new.outlet)
  pub blames : IfErr result (λ fault. Blames fault new.inlet new.outlet)
  pub lost : IfErr result (NoPeer side old.inlet new.inlet)

-- the heartbeat takes the connection from old to new, and ends with this fault
pub record EndsHeartbeat (old new : Connection) (fault : PeerFault) : Type 0 where
  pub blames : Blames fault new.inlet new.outlet
  -- what was read of the stream, the messages in it, and what was written of them
  pub echoes : (decoder : DecoderState) × (messages : Messages)
      × Ends Rep old.inlet new.inlet fault decoder messages
      × Echoes old.outlet new.outlet decoder messages fault
