-- What a connection asked for, what it was sent, and why that ended, in the one history of all calls.
use Rattle.std.specs.Prelude.{◌≡◌, ◌⊎◌, ◌≤◌, ◌<◌, ℕ, Bool, true, false, List, [], ◌∷◌, ◌++◌, length, All}
use Rattle.std.specs.Prelude.{Some, Result, Ok, Err}
use mathlib.Core.List.{IsPrefix}
use Rattle.base_streams.specs.States.{InletState, OutletState, IsReadable, IsWritable}
use Rattle.base_streams.specs.Told.{Gave, WasRead}
use Rattle.zmtp_wire.specs.Wire.{Bytes, Messages}
use Rattle.zmtp_wire.specs.Stream.{DecoderState, Completes}
use Rattle.zmtp_wire.specs.declared.handshake.Peer.{Peer}
use Rattle.zmtp_wire.specs.Receiving.{most_reads}
use Rattle.lab_turn.specs.History.{PassState, calls_of}
use Rattle.kern_post.specs.declared.post.Post.{Post}
use Rattle.kern_calls.specs.declared.call.Call.{Call}
use Rattle.kern_calls.specs.declared.call.Call.TheVariants.{Fetch, Slice}
use Rattle.kern_calls.specs.declared.call.Reply.{Reply}
use Rattle.kern_calls.specs.declared.call.Reply.TheVariants.{Fetched, Ended}
use Rattle.kern_calls.specs.declared.fault.KernelFault.{KernelFault}
use Rattle.kern_calls.specs.declared.fault.KernelFault.TheVariants as fault
use Rattle.kern_desk.specs.Seats.{seated_answer}
use Rattle.kern_net.specs.declared.end.PumpEnd.{PumpEnd}
use Rattle.kern_net.specs.declared.end.PumpEnd.TheVariants as end
use Rattle.kern_net.specs.Gates.{WriterPolls, WorkerPolls, noes, IsOpen}
use Rattle.kern_net.specs.Work.{Sliced, untaken}
use Rattle.kern_net.specs.Routes.{Source, Target}
use Rattle.kern_net.specs.Streams.{posts_in, window}
use Rattle.kern_net.specs.Submitting.{Submits}
use Rattle.kern_net.specs.ReadEnds.{Reader, submits_all}
use Rattle.kern_net.specs.Out.{Writer, WrotePrefix, WroteAll, is_whole}

-- calls in the order in which the kernel took them, each with the seat that made it
abbrev pub History : Type 0
History = List (ℕ × Call)

-- All that the pass has seen is the beginning of the history, the calls of its seat there are its own, and
-- the history fits into the journal.
pub record IsPartOf (pass : PassState Call) (history : History) : Type 0 where
  pub seen : IsPrefix pass.seen history
  pub own : calls_of pass.seat history ≡ pass.calls
  pub fits : length history ≤ pass.turnstile.limit

-- a seat in a history, and the most calls that the journal takes
pub record SeatInHistory : Type 0 where
  pub history : History
  pub seat : ℕ
  pub limit : ℕ

abbrev pub seat_in : PassState Call → History → SeatInHistory
seat_in pass history = record { history = history; seat = pass.seat; limit = pass.turnstile.limit }

-- a call of the seat is in the history, and this is the specified kernel's answer there
pub record IsAnswered (place : SeatInHistory) (call : Call) (answer : Result Reply KernelFault) : Type 0 where
  pub before : History
  pub here : IsPrefix (before ++ (place.seat, call) ∷ []) place.history
  pub answered : answer ≡ seated_answer before call

-- the journal takes no more calls
abbrev pub IsFull : SeatInHistory → Type 0
IsFull place = length place.history ≡ place.limit

-- ---- what was asked

-- what an end of the reading says of the reader, of the decoder after it and of the number of reads
abbrev pub InletEnds : InletState → DecoderState → ℕ → PumpEnd → Type 0
InletEnds inlet decoder reads end.PeerEnded = (inlet.ended ≡ true) × (inlet.failed ≡ false)
InletEnds inlet decoder reads end.ReadFailed =
    (inlet.ended ≡ false) × ((inlet.failed ≡ true) ⊎ ((inlet.failed ≡ false) × (reads ≡ most_reads)))
InletEnds inlet decoder reads (end.Wire cause) = IsReadable inlet × (decoder.fault ≡ Some cause)
InletEnds inlet decoder reads _ = IsReadable inlet

-- What the reader gave from one state to another, up to this end, and the calls that the messages ask for,
-- those that the peer held first. All of them, unless a call was refused or memory ran out.
pub record Asks (source : Source) (peer : Peer) (old new : InletState) (asked : List Call) (e : PumpEnd)
    : Type 0 where
  pub taken : Bytes
  pub unread : Bytes
  pub gave : Gave old new (taken ++ unread)
  pub after : DecoderState
  pub messages : Messages
  pub reads : Completes peer.decoder taken messages after
  pub front : Messages
  pub others : Messages
  pub split : peer.messages ++ messages ≡ front ++ others
  pub submits : Submits source front asked
  pub all : submits_all e ≡ true → (unread ≡ []) × (others ≡ [])
  pub count : ℕ
  pub was_read : WasRead old new count
  pub within : count ≤ most_reads
  pub cause : InletEnds new after count e

-- the last of the calls was refused so
pub record LastIsRefused (place : SeatInHistory) (asked : List Call) (fault : KernelFault) : Type 0 where
  pub earlier : List Call
  pub call : Call
  pub split : asked ≡ earlier ++ call ∷ []
  pub represents : IsAnswered place call (Err fault)

-- what an end of the reading says of the history
abbrev pub AskingEnds : SeatInHistory → List Call → PumpEnd → Type 0
AskingEnds place asked end.JournalFull = IsFull place
AskingEnds place asked (end.Refused fault) = LastIsRefused place asked fault
AskingEnds place asked end.WriteFailed = ⊥
AskingEnds place asked end.Lagged = ⊥
AskingEnds place asked end.Ended = ⊥
AskingEnds place asked _ = Unit {0}

-- the calls that were asked for are those that the seat has added in the history
pub record AsksIn (source : Source) (peer : Peer) (old new : Reader) (history : History) (e : PumpEnd)
    : Type 0 where
  pub asked : List Call
  pub asks : Asks source peer old.inlet new.inlet asked e
  pub calls : calls_of new.pass.seat history ≡ old.pass.calls ++ asked
  pub cause : AskingEnds (seat_in new.pass history) asked e

-- ---- what was sent

-- what an end of the writing says of the writer
abbrev pub OutletEnds : OutletState → PumpEnd → Type 0
OutletEnds outlet end.WriteFailed = outlet.failed ≡ true
OutletEnds outlet _ = IsWritable outlet

-- What the writer took from one state to another, up to this end: the messages of these posts, or a prefix
-- of them if it failed or memory ran out.
pub record Sends (target : Target) (old new : OutletState) (posts : List Post) (e : PumpEnd) : Type 0 where
  pub front : WrotePrefix target old new posts
  pub whole : is_whole e ≡ true → WroteAll target old new posts
  pub cause : OutletEnds new e

-- A Fetch of the seat stands in the history, and all posts that there were at its place have numbers below
-- this one. Then the gate has said no, once; or the Fetch was answered that a shutdown had come.
pub record FetchesAll (place : SeatInHistory) (connection next : ℕ) (polls : WriterPolls) : Type 0 where
  pub from : ℕ
  pub posts : List Post
  pub ended : Bool
  pub last : IsAnswered place (Fetch connection from) (Ok (Fetched posts next ended))
  pub all : length (posts_in last.before) < next
  pub cause : (polls.idle.no ≡ 1) ⊎ ((polls.idle.no ≡ 0) × (ended ≡ true))

-- what the others say of a last Fetch
abbrev pub FetchEnds : SeatInHistory → Call → PumpEnd → Type 0
FetchEnds place fetch end.JournalFull = IsFull place
FetchEnds place fetch end.Lagged = (first : ℕ) × IsAnswered place fetch (Err (fault.Lagged first))
FetchEnds place fetch (end.Refused fault) = IsAnswered place fetch (Err fault)
FetchEnds place fetch end.PeerEnded = ⊥
FetchEnds place fetch end.ReadFailed = ⊥
FetchEnds place fetch (end.Wire cause) = ⊥
FetchEnds place fetch _ = Unit {0}

-- what an end of the writing says of the history, and of what the gate was polled, where the posts below this
-- number were to be sent
abbrev pub SendingEnds : SeatInHistory → ℕ → ℕ → WriterPolls → PumpEnd → Type 0
SendingEnds place connection next polls end.Ended = FetchesAll place connection next polls
SendingEnds place connection next polls e =
    (polls.idle.no ≡ 0) × FetchEnds place (Fetch connection next) e

-- a Fetch of this connection's posts
abbrev pub IsFetchOf : ℕ → Call → Type 0
IsFetchOf connection call = (from : ℕ) × (call ≡ Fetch connection from)

-- What was written are the posts to the connection from one number on and below another that the kernel makes
-- in the history, none left out; and nothing but Fetches was called for that.
pub record SendsIn (target : Target) (from : ℕ) (old new : Writer) (history : History) (e : PumpEnd)
    : Type 0 where
  pub next : ℕ
  pub onward : from ≤ next
  pub sends : Sends target old.outlet new.outlet (window target.connection from next (posts_in history)) e
  pub fetched : List Call
  pub fetches : All (IsFetchOf target.connection) fetched
  pub calls : calls_of new.pass.seat history ≡ old.pass.calls ++ fetched
  pub cause : SendingEnds (seat_in new.pass history) target.connection next new.polls e

-- ---- the worker

-- a Slice of the seat stands in the history, and was answered that a shutdown had come
abbrev pub SeesShutdown : SeatInHistory → Type 0
SeesShutdown place = (unix_seconds : ℕ) × IsAnswered place (Slice unix_seconds) (Ok Ended)

-- what an end of the work says of the history, and of what the gate was polled
abbrev pub WorkingEnds : SeatInHistory → WorkerPolls → PumpEnd → Type 0
WorkingEnds place polls end.Ended = (noes polls ≡ 1) ⊎ (IsOpen polls × SeesShutdown place)
WorkingEnds place polls end.OutOfMemory = IsOpen polls
WorkingEnds place polls end.JournalFull = IsOpen polls × IsFull place
WorkingEnds place polls end.OutOfTickets = IsOpen polls
WorkingEnds place polls _ = ⊥

-- The calls of the seat are Slices, as many as the gate let through but for those that weren't taken, and the
-- work ended for its cause.
pub record Works (place : SeatInHistory) (a b : WorkerPolls) (e : PumpEnd) : Type 0 where
  pub sliced : Sliced [] (calls_of place.seat place.history) a b (untaken e)
  pub cause : WorkingEnds place b e
