-- How a cell is run to its end.
use Rattle.std.specs.Prelude.{◌≡◌, ℕ, Bool, true, false, List, [], ◌∷◌, ◌++◌}
use Rattle.zmtp_wire.specs.Wire.{Bytes, Frames, Messages}
use Rattle.base_streams.specs.States.{OutletState}
use Rattle.base_streams.specs.Told.{Took}
use Rattle.zmtp_wire.specs.declared.role.Role.{Role}
use Rattle.zmtp_wire.specs.declared.role.Role.TheVariants.{Dealer, Sub}
use Rattle.zmtp_wire.specs.Writing.{message_bytes}
use Rattle.zmtp_wire.specs.Receiving.{Received}
use Rattle.zmtp_wire.specs.declared.handshake.Peer.{Peer}
use Rattle.zmtp_wire.specs.Sending.{WroteWhole}
use Rattle.lab_term.specs.declared.cell.Cell.{Cell}
use Rattle.lab_term.specs.declared.cell.CellEnd.{CellEnd}
use Rattle.lab_term.specs.declared.cell.CellEnd.TheVariants.{Success, Error}
use Rattle.lab_term.specs.Connections.{Ports, Client}
use Rattle.lab_term.specs.Events.{Notice, AreNotices, text_printed, has_error}
use Rattle.lab_term.specs.Courses.{Parent, EndsInStatus, EndsInIdle}
use Rattle.lab_term.specs.Requests.{IsRequest}

-- After these messages had passed, those of the request were printed in their order, up to its first idle.
-- The ports are the reader of iopub and the outlet that is printed to.
pub record Followed (parent : Parent) (passed : Messages) (old new : Ports) : Type 0 where
  pub peer : Peer
  pub received : Received old.from new.from peer
  pub taken : Messages
  pub others : Messages
  pub messages_are : peer.messages ≡ (passed ++ taken) ++ others
  pub notices : List Notice
  pub are : AreNotices parent.key taken notices
  pub idle : EndsInIdle parent.header notices
  pub wrote : Took old.to new.to (text_printed parent.header notices)

-- the handshake as this role was written, and then this message
pub record Said (to to' : OutletState) (role : Role) (message : Frames) : Type 0 where
  pub between : OutletState
  pub handshake : WroteWhole to between role
  pub took : Took between to' (message_bytes message)

-- subscribes to everything (RFC 23, "The Publish-Subscribe Pattern")
abbrev pub subscription : Frames
subscription = (1 ∷ []) ∷ []

-- the request was sent, with this header in it
pub record Requested (cell : Cell) (header : Bytes) (to to' : OutletState) : Type 0 where
  pub frames : Frames
  pub request : IsRequest cell header frames
  pub took : Took to to' (message_bytes frames)

-- The subscription and a request with this header were sent, and nothing else. These messages were received
-- before the request was sent; the last of them is a status.
pub record Began (cell : Cell) (old new : Client) (header : Bytes) (passed : Messages)
    : Type 0 where
  pub frames : Frames
  pub request : IsRequest cell header frames
  pub requests : Said old.shell.to new.shell.to Dealer frames
  pub subscribes : Said old.iopub.to new.iopub.to Sub subscription
  pub earlier : List Notice
  pub passed_are : AreNotices cell.key.now passed earlier
  pub status : EndsInStatus earlier

-- the parent of the messages that answer a cell's request with this header
abbrev pub parent_of : Cell → Bytes → Parent
parent_of cell header = record { key = cell.key.now; header = header }

-- the reader of iopub, and the outlet that is printed to
abbrev pub printing : Client → Ports
printing client = record { from = client.iopub.from; to = client.output }

-- the cell was run to its end: the text of its messages was printed, up to its first idle
pub record Ran (cell : Cell) (old new : Client) : Type 0 where
  pub header : Bytes
  pub passed : Messages
  pub began : Began cell old new header passed
  pub followed : Followed (parent_of cell header) passed (printing old) (printing new)

-- how a cell ended, by whether an error was among its messages
abbrev pub end_by : Bool → CellEnd
end_by false = Success
end_by true = Error

-- how the cell ended
abbrev pub cell_end : {cell : Cell} {old new : Client} → Ran cell old new → CellEnd
cell_end ran = end_by (has_error ran.header ran.followed.notices)
