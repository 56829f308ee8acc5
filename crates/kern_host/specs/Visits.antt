-- How a connection was served, in the one history of all calls.
use Rattle.std.specs.Prelude.{◌≡◌, ◌≤◌, ℕ, false, List, [], ◌∷◌, ◌++◌, All, Option, Some, None}
use Rattle.std.specs.Prelude.{Result, Ok, Err}
use Rattle.base_streams.specs.States.{InletState, OutletState}
use Rattle.zmtp_wire.specs.Wire.{Bytes}
use Rattle.zmtp_wire.specs.declared.role.Role.{Role}
use Rattle.zmtp_wire.specs.declared.role.Role.TheVariants.{Pub, Router}
use Rattle.zmtp_wire.specs.declared.head.Stage.TheVariants.{Traffic}
use Rattle.zmtp_wire.specs.declared.handshake.Peer.{Peer}
use Rattle.zmtp_wire.specs.declared.peer_fault.PeerFault.{PeerFault}
use Rattle.zmtp_wire.specs.Receiving.{Received}
use Rattle.zmtp_wire.specs.Ends.{NoPeer, Blames}
use Rattle.zmtp_wire.specs.Sending as hello
use Rattle.jup_wire.specs.declared.channel.Channel.{Channel}
use Rattle.jup_wire.specs.declared.channel.Channel.TheVariants.{Iopub}
use Rattle.lab_turn.specs.History.{PassState, calls_of}
use Rattle.kern_calls.specs.declared.call.Call.{Call}
use Rattle.kern_calls.specs.declared.call.Call.TheVariants.{Join}
use Rattle.kern_calls.specs.declared.call.Reply.TheVariants.{Joined}
use Rattle.kern_calls.specs.declared.fault.KernelFault.{KernelFault}
use Rattle.kern_calls.specs.declared.fault.KernelFault.TheVariants as fault
use Rattle.kern_laws.specs.Laws.{posts_below}
use Rattle.kern_desk.specs.Joins.{IsUnjoined}
use Rattle.kern_net.specs.declared.end.PumpEnd.{PumpEnd}
use Rattle.kern_net.specs.Gates.{WriterPolls}
use Rattle.kern_net.specs.Routes.{Target}
use Rattle.kern_net.specs.Streams.{posts_in}
use Rattle.kern_host.specs.declared.end.Ends.{Ends}
use Rattle.kern_host.specs.declared.end.LeaveFault.{LeaveFault}
use Rattle.kern_host.specs.declared.end.LeaveFault.TheVariants as leave
use Rattle.kern_host.specs.declared.end.VisitEnd.{VisitEnd}
use Rattle.kern_host.specs.declared.end.VisitEnd.TheVariants.{NoHandshake, NoJoin, Served}
use Rattle.kern_host.specs.declared.guest.Passes.{Passes}
use Rattle.kern_host.specs.declared.server.Seal.{Seal}
use Rattle.kern_host.specs.Guests.{GuestState, IsComing, Line, line_of}
use Rattle.kern_host.specs.Leaves.{leaving}
use Rattle.kern_host.specs.OneHistory.{History, SeatInHistory, IsAnswered, IsFull, IsPartOf, Asks}
use Rattle.kern_host.specs.OneHistory.{AskingEnds, Sends}
use Rattle.kern_host.specs.OneHistory.{SendingEnds, IsFetchOf}
use Rattle.kern_host.specs.Writes.{when_decided}

-- what is the same for all connections: the key and the session of the messages, and the most calls that the
-- journal takes
pub record House : Type 0 where
  pub key : Bytes
  pub session : Bytes
  pub limit : ℕ

abbrev pub house_of : Seal → ℕ → House
house_of seal limit = record { key = seal.key.now; session = seal.session.now; limit = limit }

-- a seat, and the calls that it had made before
pub record Seat : Type 0 where
  pub number : ℕ
  pub earlier : List Call

abbrev pub seat_of : PassState Call → Seat
seat_of pass = record { number = pass.seat; earlier = pass.calls }

-- from where a connection is served: the seats of its reader and of its writer, in a house
pub record Seats : Type 0 where
  pub house : House
  pub reading : Seat
  pub writing : Seat

abbrev pub seats_of : House → Passes → Seats
seats_of house passes = record {
  house = house;
  reading = seat_of passes.reading;
  writing = seat_of passes.writing;
}

abbrev pub reading_at : Seats → History → SeatInHistory
reading_at s history = record { history = history; seat = s.reading.number; limit = s.house.limit }

abbrev pub writing_at : Seats → History → SeatInHistory
writing_at s history = record { history = history; seat = s.writing.number; limit = s.house.limit }

-- the calls of a seat in the history are those of before, and these
abbrev pub Adds : Seat → History → List Call → Type 0
Adds seat history added = calls_of seat.number history ≡ seat.earlier ++ added

-- ---- a peer

-- the side that the kernel is on a channel
abbrev pub role_on : Channel → Role
role_on Iopub = Pub
role_on _ = Router

abbrev pub or_empty : Option Bytes → Bytes
or_empty (Some identity) = identity
or_empty None = []

-- the identity that the peer's READY names, or an empty one
abbrev pub identity_of : Peer → Bytes
identity_of peer = or_empty peer.decoder.identity

-- the handshake was made with a peer, and left the reader and the writer so
pub record Meets (l : Line) (inlet : InletState) (outlet : OutletState) (peer : Peer) : Type 0 where
  pub received : Received l.inlet inlet peer
  pub role : peer.decoder.role ≡ role_on l.channel
  pub ready : peer.decoder.stage ≡ Traffic
  pub wrote : hello.WroteWhole l.outlet outlet (role_on l.channel)

-- no Join was made for want of memory, or it was refused so, or no turn was had
pub data IsUnjoinedPeer (old : PassState Call) (call : Call) (new : PassState Call) : KernelFault
    → Type 0 where
  NoMemory : (f : KernelFault) → f ≡ fault.OutOfMemory → new ≡ old → IsUnjoinedPeer old call new f
  NotTaken : (f : KernelFault) → IsUnjoined old call new f → IsUnjoinedPeer old call new f

-- ---- a visit

-- no peer came, and nothing was called
pub record MeetsNobody (s : Seats) (old new : Line) (history : History)
    (fault : PeerFault) : Type 0 where
  pub lost : NoPeer (role_on old.channel) old.inlet new.inlet fault
  pub wrote : hello.WrotePrefix old.outlet new.outlet (role_on old.channel)
  pub blames : Blames fault new.inlet new.outlet
  pub silent : Adds s.reading history [] × Adds s.writing history []

-- What a fault says of a Join that was not taken: no memory or no turn was had for it, or the journal was
-- full, and it was not made; or it stands in the history, and was refused so there.
abbrev pub TurnsAway : Seats → History → Call → KernelFault → Type 0
TurnsAway s history join fault.OutOfMemory = Adds s.reading history []
TurnsAway s history join fault.JournalFull = Adds s.reading history []
TurnsAway s history join f =
    Adds s.reading history (join ∷ []) × IsAnswered (reading_at s history) join (Err f)

-- a peer came, and the kernel took no Join of it
pub record IsTurnedAway (s : Seats) (old new : Line) (history : History)
    (fault : KernelFault) : Type 0 where
  pub peer : Peer
  pub meets : Meets old new.inlet new.outlet peer
  pub cause : TurnsAway s history (Join old.channel (identity_of peer)) fault
  pub silent : Adds s.writing history []

-- if there is no Leave, the journal was full, or no turn was to be had
abbrev pub LeaveEnds : SeatInHistory → Result (Unit {0}) LeaveFault → Type 0
LeaveEnds place (Err leave.JournalFull) = IsFull place
LeaveEnds place _ = Unit {0}

-- what is to be sent to a connection that has joined: to whom, the number of the next post at its Join, and
-- the writer and what its gate was polled before that
pub record Outgoing : Type 0 where
  pub target : Target
  pub from : ℕ
  pub outlet : OutletState
  pub polls : WriterPolls

-- What was sent to this end are the posts to the connection with numbers below `next`, from the first of all;
-- there is none below its Join's number. And the second seat only fetched them.
pub record IsSent (s : Seats) (out : Outgoing) (new : Line) (history : History) (e : PumpEnd) : Type 0 where
  pub next : ℕ
  pub onward : out.from ≤ next
  pub sends : Sends out.target out.outlet new.outlet
      (posts_below out.target.connection next (posts_in history)) e
  pub fetched : List Call
  pub fetches : Adds s.writing history fetched × All (IsFetchOf out.target.connection) fetched
  pub cause : SendingEnds (writing_at s history) out.target.connection next new.polls e

-- nothing was fetched and nothing was sent
pub record IsUnsent (s : Seats) (out : Outgoing) (new : Line) (history : History) : Type 0 where
  pub outlet : new.outlet ≡ out.outlet
  pub silent : Adds s.writing history []
  pub gate : new.polls ≡ when_decided false out.polls

-- the posts were sent to this end; or none was, as was decided before the first Fetch
abbrev pub SendsIfAny : Seats → Outgoing → Line → History → Option PumpEnd → Type 0
SendsIfAny s out new history (Some e) = IsSent s out new history e
SendsIfAny s out new history None = IsUnsent s out new history

-- A peer came and joined. The calls of its first seat are its Join, one for each message of its bytes that
-- asks for something, and its Leave. What it was sent after the handshake are the posts to it, from the
-- first on.
pub record IsServed (s : Seats) (old new : Line) (history : History) (ends : Ends) : Type 0 where
  pub peer : Peer
  pub inlet : InletState
  pub outlet : OutletState
  pub meets : Meets old inlet outlet peer
  pub connection : ℕ
  pub from : ℕ
  pub joins : IsAnswered (reading_at s history) (Join old.channel (identity_of peer)) (Ok
      (Joined connection from))
  pub asked : List Call
  pub calls : Adds s.reading history (Join old.channel (identity_of peer) ∷
      (asked ++ leaving connection ends.leave))
  pub asks : Asks (record { connection = connection; channel = old.channel; key = s.house.key })
      peer inlet new.inlet asked ends.reading
  pub asking_ends : AskingEnds (reading_at s history) asked ends.reading
  pub sent : SendsIfAny s (record {
    target = record { connection = connection; key = s.house.key; session = s.house.session };
    from = from;
    outlet = outlet;
    polls = old.polls;
  }) new history ends.writing
  pub leave_ends : LeaveEnds (reading_at s history) ends.leave

abbrev pub IsVisit : Seats → Line → Line → History → VisitEnd → Type 0
IsVisit s old new history (NoHandshake fault) = MeetsNobody s old new history fault
IsVisit s old new history (NoJoin fault) = IsTurnedAway s old new history fault
IsVisit s old new history (Served ends) = IsServed s old new history ends

-- ---- before the history of all is known

-- A visit left the guest so, and its passes, which are of the same seats. Whatever the history is of which
-- these passes are a part, the guest was served in it.
pub record VisitedFrom (house : House) (old new : GuestState) (before after : Passes) : Type 0 where
  pub reading : (after.reading.turnstile ≡ before.reading.turnstile)
      × (after.reading.seat ≡ before.reading.seat)
  pub writing : (after.writing.turnstile ≡ before.writing.turnstile)
      × (after.writing.seat ≡ before.writing.seat)
  pub channel : new.channel ≡ old.channel
  pub end : VisitEnd
  pub told : new.end ≡ Some end
  pub visit : (history : History) → IsPartOf after.reading history → IsPartOf after.writing history
      → IsVisit (seats_of house before) (line_of old) (line_of new) history end

abbrev pub VisitedWith : House → GuestState → GuestState → Option Passes → Option Passes → Type 0
VisitedWith house old new (Some before) (Some after) = VisitedFrom house old new before after
VisitedWith house old new _ _ = ⊥

-- the guest was visited
abbrev pub Visited : House → GuestState → GuestState → Type 0
Visited house old new = VisitedWith house old new old.passes new.passes

-- ---- one visit after the other

-- A thread visited a connection of this channel with its two passes, which are these before and after.
pub record VisitsOne (house : House) (channel : Channel) (before after : Passes) : Type 0 where
  pub old : GuestState
  pub new : GuestState
  pub coming : IsComing old
  pub on : old.channel ≡ channel
  pub passes : (old.passes ≡ Some before) × (new.passes ≡ Some after)
  pub visited : Visited house old new

-- A thread visited connections of this channel, one after the other, and made no other calls.
pub data VisitsEach (house : House) (channel : Channel) (before : Passes) : Passes → Type 0 where
  NoVisit : VisitsEach house channel before before
  OneVisit : (mid after : Passes) → VisitsEach house channel before mid → VisitsOne house channel mid after
      → VisitsEach house channel before after
