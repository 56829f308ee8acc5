-- What the program does: what is written is a function of what was read.
use Rattle.std.specs.Prelude.{◌≡◌, ◌≢◌, ◌⊎◌, ◌^◌, ◌-◌, Bool, true, false, List, [], ◌++◌, Some, None}
use Rattle.zmtp_wire.specs.Wire.{Bytes, Messages}
use Rattle.base_streams.specs.States.{InletState, OutletState}
use Rattle.base_streams.specs.Told.{Gave, Took, TookPrefix, WasRead}
use Rattle.zmtp_wire.specs.declared.role.Role.TheVariants.{Router}
use Rattle.zmtp_wire.specs.declared.peer_fault.PeerFault.{PeerFault}
use Rattle.zmtp_wire.specs.declared.peer_fault.PeerFault.TheVariants as end
use Rattle.zmtp_wire.specs.Connections.{Connection}
use Rattle.zmtp_wire.specs.Ends.{Blames}
use Rattle.zmtp_wire.specs.Sending.{IsHandshakeOf}
use Rattle.zmtp_wire.specs.Stream.{DecoderState, HasReadMessages}
use Rattle.lab80_web.specs.Outputs.{Output, IsStreamOf}
use Rattle.lab80_web.specs.Session.{outputs_of}

-- the handshake, and the messages of these outputs after it
pub record IsWrittenAs (outputs : List Output) (bytes : Bytes) : Type 0 where
  pub handshake : Bytes
  pub is_handshake : IsHandshakeOf handshake Router
  pub stream : Bytes
  pub is_stream : IsStreamOf outputs stream
  pub spelled : bytes ≡ handshake ++ stream

-- a prefix of the handshake and these outputs was written
pub record WroteFront (old new : OutletState) (outputs : List Output) : Type 0 where
  pub begun : List Output
  pub others : List Output
  pub split : outputs ≡ begun ++ others
  pub bytes : Bytes
  pub written : IsWrittenAs begun bytes
  pub front : TookPrefix old new bytes

-- all of it was written
pub record WroteWhole (old new : OutletState) (outputs : List Output) : Type 0 where
  pub bytes : Bytes
  pub written : IsWrittenAs outputs bytes
  pub took : Took old new bytes

-- whether the stream is broken, by the end
abbrev pub Breaks : PeerFault → DecoderState → Type 0
Breaks (end.Wire cause) decoder = decoder.fault ≡ Some cause
Breaks end.PeerEnded decoder = decoder.fault ≡ None
Breaks end.ReadFailed decoder = decoder.fault ≡ None
Breaks _ decoder = Unit {0}

-- these bytes spell these messages, as a router reads its peer's stream
pub record Spells (read : Bytes) (messages : Messages) (e : PeerFault) : Type 0 where
  pub decoder : DecoderState
  pub role : decoder.role ≡ Router
  pub reads : HasReadMessages decoder read messages
  pub breaks : Breaks e decoder

-- memory didn't run out and no write failed
abbrev pub is_whole : PeerFault → Bool
is_whole end.OutOfMemory = false
is_whole end.WriteFailed = false
is_whole _ = true

-- a failed read means that the reader failed, or that 2 ^ 64 - 1 reads were made
abbrev pub FailsBy : PeerFault → InletState → InletState → Type 0
FailsBy end.ReadFailed old new = (new.failed ≡ true) ⊎ WasRead old new (2 ^ 64 - 1)
FailsBy _ old new = Unit {0}

-- The reader gave bytes, of which some may be unread if memory ran out. The others spell messages, and what
-- was written is what these are answered with; a prefix of that, if memory ran out or a write failed.
pub record Serves (old new : Connection) (e : PeerFault) : Type 0 where
  pub read : Bytes
  pub unread : Bytes
  pub gave : Gave old.inlet new.inlet (read ++ unread)
  pub all : e ≢ end.OutOfMemory → unread ≡ []
  pub messages : Messages
  pub spells : Spells read messages e
  pub front : WroteFront old.outlet new.outlet (outputs_of messages)
  pub whole : is_whole e ≡ true → WroteWhole old.outlet new.outlet (outputs_of messages)
  pub blames : Blames e new.inlet new.outlet
  pub fails_by : FailsBy e old.inlet new.inlet
