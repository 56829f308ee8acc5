-- What was read from a connection, and the calls that were made for it.
use Rattle.std.specs.Prelude.{◌≡◌, ◌≤◌, ◌⊎◌, ℕ, true, List, [], ◌∷◌, ◌++◌, Result, Ok, MatchResult}
use Rattle.zmtp_wire.specs.Wire.{Bytes, Messages}
use mathlib.Core.List.{IsPrefix}
use Rattle.base_streams.specs.States.{InletState, IsReadable}
use Rattle.base_streams.specs.Told.{Gave, WasRead}
use Rattle.lab_turn.specs.History.{PassState, TurnstileState}
use Rattle.zmtp_wire.specs.Stream.{DecoderState, Completes}
use Rattle.zmtp_wire.specs.declared.handshake.Peer.{Peer}
use Rattle.zmtp_wire.specs.Receiving.{most_reads}
use Rattle.kern_calls.specs.declared.call.Call.{Call}
use Rattle.kern_calls.specs.declared.call.Reply.{Reply}
use Rattle.kern_net.specs.declared.end.PumpEnd.{PumpEnd}
use Rattle.kern_net.specs.declared.routes.IncomingRoute.{IncomingRoute}
use Rattle.kern_net.specs.Routes.{Source, source_of}
use Rattle.kern_net.specs.Submitting.{Submits}
use Rattle.kern_net.specs.Calls.{TurnedBy}
use Rattle.kern_net.specs.Gates.{ReaderPolls, WokeForEach, WokeOwnForEach, HasWoken}
use Rattle.kern_net.specs.ReadEnds.{Reader, IsRefusal, StopsBy, StopsPiece, EndsBy, submits_all}

-- these calls were made, one turn after the other, and none was refused
pub data TakesTurns (old : PassState Call) : PassState Call → List Call → Type 0 where
  NoCall : TakesTurns old old []
  OneMore : (mid new : PassState Call) (calls : List Call) (call : Call) (reply : Reply)
      → TakesTurns old mid calls → TurnedBy mid call (Ok reply) new → TakesTurns old new (calls ++ call ∷ [])

-- these calls were made, and none was refused, except the last if the end is its refusal
pub record TakesTurnsUntil (old new : PassState Call) (added : List Call) (e : PumpEnd) : Type 0 where
  pub mid : PassState Call
  pub granted : List Call
  pub turns : TakesTurns old mid granted
  pub onward : IsPrefix mid.seen new.seen
  pub last : (added ≡ granted) ⊎ (IsRefusal e × ((call : Call) × (added ≡ granted ++ call ∷ [])))

-- all calls that these messages ask for were made, and none was refused
pub record SubmittedAll (source : Source) (messages : Messages) (old new : PassState Call)
    : Type 0 where
  pub added : List Call
  pub submits : Submits source messages added
  pub calls : new.calls ≡ old.calls ++ added
  pub turns : TakesTurns old new added

-- the calls that a prefix of these messages asks for were made, until this end
pub record SubmittedPrefix (source : Source) (messages : Messages) (old new : PassState Call)
    (e : PumpEnd) : Type 0 where
  pub front : Messages
  pub others : Messages
  pub messages_are : messages ≡ front ++ others
  pub added : List Call
  pub submits : Submits source front added
  pub calls : new.calls ≡ old.calls ++ added
  pub made : TakesTurnsUntil old new added e
  pub all : submits_all e ≡ true → others ≡ []

-- the calls that these messages ask for were made: on Ok all of them, else those of a front, with the cause
-- why it stops there
abbrev pub SubmittedFor : Source → Messages → PassState Call → PassState Call
    → Result (Unit {0}) PumpEnd → Type 0
SubmittedFor source messages old new result = MatchResult result
    (λ _. SubmittedAll source messages old new)
    (λ e. SubmittedPrefix source messages old new e × StopsBy e old.calls new)

-- the decoder of a peer's stream, and the pass of the calls that are made for it
pub record Receiver : Type 0 where
  pub decoder : DecoderState
  pub pass : PassState Call

-- the decoder read these bytes, and the calls were made that the messages held before and those in the bytes
-- ask for
pub record ReceivedAll (source : Source) (held : Messages) (bytes : Bytes) (old new : Receiver)
    : Type 0 where
  pub messages : Messages
  pub reads : Completes old.decoder bytes messages new.decoder
  pub submitted : SubmittedAll source (held ++ messages) old.pass new.pass

-- the decoder read a prefix of the bytes, and the calls were made that a prefix of the messages asks for,
-- until this end
pub record ReceivedPrefix (source : Source) (held : Messages) (bytes : Bytes) (old new : Receiver)
    (e : PumpEnd) : Type 0 where
  pub taken : Bytes
  pub unread : Bytes
  pub messages : Messages
  pub bytes_are : bytes ≡ taken ++ unread
  pub reads : Completes old.decoder taken messages new.decoder
  pub submitted : SubmittedPrefix source (held ++ messages) old.pass new.pass e
  pub all : submits_all e ≡ true → unread ≡ []

-- the decoder read this piece, and the calls that its messages ask for were made: on Ok all of them, else as
-- far as the end says, with the cause why it stops there
abbrev pub PieceSubmitted : Source → Bytes → Receiver → Receiver → Result (Unit {0}) PumpEnd → Type 0
PieceSubmitted source piece old new result = MatchResult result
    (λ _. ReceivedAll source [] piece old new)
    (λ e. ReceivedPrefix source [] piece old new e × StopsPiece e old.pass.calls new.pass new.decoder)

-- a peer was read from to this end, beginning with the messages that came with its READY
pub record ReadOut (source : Source) (peer : Peer) (old new : Reader) (e : PumpEnd) : Type 0 where
  pub bytes : Bytes
  pub after : DecoderState
  pub gave : Gave old.inlet new.inlet bytes
  pub received : ReceivedPrefix source peer.messages bytes (record {
    decoder = peer.decoder;
    pass =
        old.pass;
  })
      (record { decoder = after; pass = new.pass }) e
  pub reads : ℕ
  pub was_read : WasRead old.inlet new.inlet reads
  pub within : reads ≤ most_reads
  pub cause : EndsBy e old new after reads

-- what is read, the pass of the calls that are made for it, and what the reader's gate was polled
pub record GatedReader : Type 0 where
  pub inlet : InletState
  pub pass : PassState Call
  pub polls : ReaderPolls

abbrev pub reader_with : InletState → PassState Call → ReaderPolls → GatedReader
reader_with inlet pass polls = record { inlet = inlet; pass = pass; polls = polls }

-- the pass is of this desk, the reader has neither ended nor failed, and others were woken for each moment
-- that the gate told
pub record CanRead (desk : TurnstileState) (reader : GatedReader) : Type 0 where
  pub own : reader.pass.turnstile ≡ desk
  pub readable : IsReadable reader.inlet
  pub woken : HasWoken reader.polls

-- A peer was read from to this end, by calls of one seat at the route's desk. All were woken once for each
-- call that may give the worker something to do, and those whom it concerns were told once for each other
-- call.
pub record PumpsIn (route : IncomingRoute) (peer : Peer) (old new : GatedReader) (e : PumpEnd) : Type 0 where
  pub same : (new.pass.turnstile ≡ route.desk.now) × (new.pass.seat ≡ old.pass.seat)
  pub woke : WokeForEach old.pass new.pass old.polls new.polls
  pub told : WokeOwnForEach old.pass new.pass old.polls new.polls
  pub read : ReadOut (source_of route) peer (record { inlet = old.inlet; pass = old.pass })
      (record { inlet = new.inlet; pass = new.pass }) e
