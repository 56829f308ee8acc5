-- How far a cell was run that wasn't run to its end.
use Rattle.std.specs.Prelude.{◌≡◌, ℕ, ◌⊎◌, List, [], ◌++◌}
use Rattle.zmtp_wire.specs.Wire.{Bytes, Frames, Messages}
use Rattle.base_streams.specs.States.{InletState, OutletState}
use Rattle.base_streams.specs.Told.{Gave, Took, TookPrefix}
use Rattle.zmtp_wire.specs.declared.role.Role.{Role}
use Rattle.zmtp_wire.specs.declared.role.Role.TheVariants.{Dealer, Sub}
use Rattle.zmtp_wire.specs.Stream.{DecoderState, HasReadMessages}
use Rattle.zmtp_wire.specs.Writing.{message_bytes}
use Rattle.zmtp_wire.specs.Receiving.{Received}
use Rattle.zmtp_wire.specs.declared.handshake.Peer.{Peer}
use Rattle.zmtp_wire.specs.Sending.{WrotePrefix, WroteWhole}
use Rattle.lab_term.specs.declared.fault.TermFault.{TermFault}
use Rattle.lab_term.specs.declared.fault.TermFault.TheVariants.{OutOfMemory, Ended, Wire}
use Rattle.lab_term.specs.declared.fault.WireCause.TheVariants.{Stream}
use Rattle.lab_term.specs.Connections.{Ports, Client}
use Rattle.lab_term.specs.Events.{Notice, AreNotices, ends, text_printed}
use Rattle.lab_term.specs.declared.cell.Cell.{Cell}
use Rattle.lab_term.specs.Courses.{Parent, HasNo, EndsInStatus}
use Rattle.lab_term.specs.Requests.{IsRequest}
use Rattle.lab_term.specs.Running.{Said, Began, parent_of, printing, subscription}

-- the handshake as this role was written, and then a prefix of this message
pub record SaidPrefix (to to' : OutletState) (role : Role) (message : Frames) : Type 0 where
  pub between : OutletState
  pub handshake : WroteWhole to between role
  pub front : TookPrefix between to' (message_bytes message)

-- a prefix of the cell's request was sent, or nothing if memory ran out before it was made
pub data RequestedPrefix (cell : Cell) (to to' : OutletState) (fault : TermFault) : Type 0 where
  NoRequest : fault ≡ OutOfMemory → to' ≡ to → RequestedPrefix cell to to' fault
  RequestPrefix : (header : Bytes) (frames : Frames) → IsRequest cell header frames
      → TookPrefix to to' (message_bytes frames) → RequestedPrefix cell to to' fault

-- messages were received of which the first ones end in a status
pub record Awaited (key : Bytes) (from from' : InletState) : Type 0 where
  pub peer : Peer
  pub received : Received from from' peer
  pub passed : Messages
  pub others : Messages
  pub messages_are : peer.messages ≡ passed ++ others
  pub notices : List Notice
  pub are : AreNotices key passed notices
  pub status : EndsInStatus notices

-- the kernel ended the stream, or broke it
abbrev pub EndsStream : TermFault → Type 0
EndsStream Ended = Unit {0}
EndsStream (Wire (Stream cause)) = Unit {0}
EndsStream _ = ⊥

-- After these messages had passed, others were taken, none of them the request's idle, and a prefix of their
-- text was printed. If the stream ended or broke, they are all its messages, and their whole text was
-- printed. All that the reader gave was received, unless memory ran out.
pub record FollowedPrefix (parent : Parent) (passed : Messages) (old new : Ports) (fault : TermFault)
    : Type 0 where
  pub decoder : DecoderState
  pub messages : Messages
  pub received : Bytes
  pub unreceived : Bytes
  pub gave : Gave old.from new.from (received ++ unreceived)
  pub all : (unreceived ≡ []) ⊎ (fault ≡ OutOfMemory)
  pub represents : HasReadMessages decoder received messages
  pub taken : Messages
  pub others : Messages
  pub messages_are : messages ≡ (passed ++ taken) ++ others
  pub notices : List Notice
  pub are : AreNotices parent.key taken notices
  pub busy : HasNo (ends parent.header) notices
  pub wrote : TookPrefix old.to new.to (text_printed parent.header notices)
  pub whole : EndsStream fault → (others ≡ []) × Took old.to new.to (text_printed parent.header notices)

-- the request was sent, and a prefix of the text of its messages was printed
pub record RanPrefix (cell : Cell) (old new : Client) (fault : TermFault) : Type 0 where
  pub header : Bytes
  pub passed : Messages
  pub began : Began cell old new header passed
  pub followed : FollowedPrefix (parent_of cell header) passed (printing old) (printing new) fault

-- what was written to iopub before the request was sent: a prefix of the handshake; the whole handshake, and
-- a prefix of the subscription; or both whole
pub data WroteIopub (to to' : OutletState) : Type 0 where
  HandshakePrefix : WrotePrefix to to' Sub → WroteIopub to to'
  SubscriptionPrefix : SaidPrefix to to' Sub subscription → WroteIopub to to'
  Subscribed : Said to to' Sub subscription → WroteIopub to to'

-- The client stopped in the handshake of shell; in that of iopub, while it subscribed, or while it waited for
-- a status; while it sent the request; or while it followed the cell.
pub data Stopped (cell : Cell) (old new : Client) (fault : TermFault) : Type 0 where
  AtShell : WrotePrefix old.shell.to new.shell.to Dealer → new ≡ record old { shell = new.shell }
      → Stopped cell old new fault
  AtIopub : WroteWhole old.shell.to new.shell.to Dealer → WroteIopub old.iopub.to new.iopub.to
      → new.output ≡ old.output → Stopped cell old new fault
  AtRequest : (between : OutletState) → WroteWhole old.shell.to between Dealer
      → RequestedPrefix cell between new.shell.to fault → Said old.iopub.to new.iopub.to Sub subscription
      → Awaited cell.key.now old.iopub.from new.iopub.from → new.output ≡ old.output
      → Stopped cell old new fault
  AtCourse : RanPrefix cell old new fault → Stopped cell old new fault
