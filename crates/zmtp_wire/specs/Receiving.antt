-- What was received from a peer.
use Rattle.std.specs.Prelude.{ℕ, ◌≤◌}
use Rattle.zmtp_wire.specs.Wire.{Bytes}
use Rattle.zmtp_wire.specs.Stream.{HasReadMessages}
use Rattle.base_streams.specs.States.{InletState}
use Rattle.base_streams.specs.Told.{Gave, WasRead}
use Rattle.zmtp_wire.specs.declared.handshake.Peer.{Peer}

-- the most reads of a conversation
unfoldable pub most_reads : ℕ
most_reads = 4294967295

-- the peer's decoder has read what the reader gave in so many reads, and these are the messages in it
pub record Received (old new : InletState) (peer : Peer) : Type 0 where
  pub stream : Bytes
  pub gave : Gave old new stream
  pub represents : HasReadMessages peer.decoder stream peer.messages
  pub was_read : WasRead old new peer.reads
  pub within : peer.reads ≤ most_reads
