-- What is written to a peer (RFC 23).
use Rattle.std.specs.Prelude.{◌≡◌, ◌++◌, Result, MatchResult, flat_map}
use Rattle.zmtp_wire.specs.declared.role.Role.{Role}
use Rattle.zmtp_wire.specs.declared.role.Role.TheVariants.{Rep}
use Rattle.zmtp_wire.specs.declared.head.Stage.TheVariants.{Traffic}
use Rattle.zmtp_wire.specs.Stream.{DecoderState}
use Rattle.zmtp_wire.specs.Wire.{Bytes, Messages}
use Rattle.zmtp_wire.specs.Writing.{written_greeting, IsReadyOf, message_bytes}
use Rattle.base_streams.specs.States.{OutletState, IsWritable}
use Rattle.base_streams.specs.Told.{Took, TookPrefix}
use Rattle.zmtp_wire.specs.declared.peer_fault.PeerFault.{PeerFault}
use Rattle.zmtp_wire.specs.Ends.{EndsReading, Refuses}

-- what a side of this role writes before any message: its greeting, and its READY
pub record IsHandshakeOf (bytes : Bytes) (role : Role) : Type 0 where
  pub ready : Bytes
  pub is_ready : IsReadyOf ready role
  pub spelled : bytes ≡ written_greeting ++ ready

-- these bytes were written; or a prefix of them was, and the fault says why not more
abbrev pub Writes : Bytes → OutletState → OutletState → Result (Unit {0}) PeerFault → Type 0
Writes bytes old new result = MatchResult result
    (λ _. Took old new bytes × IsWritable new)
    (λ fault. TookPrefix old new bytes × Refuses fault new)

-- a prefix of the role's handshake was written
pub record WrotePrefix (old new : OutletState) (role : Role) : Type 0 where
  pub handshake : Bytes
  pub is : IsHandshakeOf handshake role
  pub front : TookPrefix old new handshake

-- the role's handshake was written whole
pub record WroteWhole (old new : OutletState) (role : Role) : Type 0 where
  pub handshake : Bytes
  pub is : IsHandshakeOf handshake role
  pub took : Took old new handshake

-- the greeting was written whole, and perhaps more after it
pub record WroteGreeting (old new : OutletState) : Type 0 where
  pub more : Bytes
  pub took : Took old new (written_greeting ++ more)

-- messages as they are written, one after the other
abbrev pub messages_bytes : Messages → Bytes
messages_bytes messages = flat_map message_bytes messages

-- a prefix of the handshake and these messages was written; all of it if the peer was accepted and the fault
-- came from reading
pub record Echoes (old new : OutletState) (decoder : DecoderState) (messages : Messages)
    (fault : PeerFault) : Type 0 where
  pub handshake : Bytes
  pub is : IsHandshakeOf handshake Rep
  pub front : TookPrefix old new (handshake ++ messages_bytes messages)
  pub whole : EndsReading fault → decoder.stage ≡ Traffic
      → Took old new (handshake ++ messages_bytes messages)
