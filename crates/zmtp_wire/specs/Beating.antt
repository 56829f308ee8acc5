-- One round of a heartbeat.
use Rattle.std.specs.Prelude.{◌≡◌, ◌<◌, true, ◌++◌, length}
use Rattle.zmtp_wire.specs.Stream.{DecoderState, Completes}
use Rattle.zmtp_wire.specs.Wire.{Bytes, Messages}
use Rattle.base_streams.specs.States.{InletState, OutletState}
use Rattle.base_streams.specs.Told.{Gave, Took, TookPrefix, WasRead}
use Rattle.zmtp_wire.specs.declared.peer_fault.PeerFault.{PeerFault}
use Rattle.zmtp_wire.specs.declared.peer_fault.PeerFault.TheVariants.{ReadFailed}
use Rattle.zmtp_wire.specs.Ends.{Explains, EndsReading}
use Rattle.zmtp_wire.specs.Sending.{messages_bytes}

-- a conversation: its reader, the side that receives what it gives, and its writer
pub record Conversation : Type 0 where
  pub inlet : InletState
  pub decoder : DecoderState
  pub outlet : OutletState

-- the side took this piece, and the messages that it completes were written
pub record EchoedPiece (piece : Bytes) (decoder decoder' : DecoderState) (to to' : OutletState) : Type 0 where
  pub messages : Messages
  pub completes : Completes decoder piece messages decoder'
  pub took : Took to to' (messages_bytes messages)

-- the reader gave a piece that isn't empty, which was echoed
pub record EchoedRound (old new : Conversation) : Type 0 where
  pub piece : Bytes
  pub some : 0 < length piece
  pub gave : Gave old.inlet new.inlet piece
  pub was_read : WasRead old.inlet new.inlet 1
  pub echoed : EchoedPiece piece old.decoder new.decoder old.outlet new.outlet

-- the fault ended a round: the side received a prefix of the piece, and a prefix of the messages that it
-- completes was written, all of them if the fault came from reading
pub record LostPiece (piece : Bytes) (old new : Conversation) (fault : PeerFault) : Type 0 where
  pub received : Bytes
  pub unreceived : Bytes
  pub piece_is : piece ≡ received ++ unreceived
  pub messages : Messages
  pub completes : Completes old.decoder received messages new.decoder
  pub explains : Explains fault new.decoder unreceived
  pub failed : fault ≡ ReadFailed → new.inlet.failed ≡ true
  pub front : TookPrefix old.outlet new.outlet (messages_bytes messages)
  pub whole : EndsReading fault → Took old.outlet new.outlet (messages_bytes messages)

-- the same of what the reader gave in a read
pub record LostRound (old new : Conversation) (fault : PeerFault) : Type 0 where
  pub piece : Bytes
  pub gave : Gave old.inlet new.inlet piece
  pub was_read : WasRead old.inlet new.inlet 1
  pub lost : LostPiece piece old new fault
