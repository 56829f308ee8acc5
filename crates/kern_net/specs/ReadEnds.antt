-- Why reading from a connection ends.
use Rattle.std.specs.Prelude.{◌≡◌, ◌⊎◌, ℕ, Bool, true, false, List, [], ◌∷◌, ◌++◌, length, Some, Result, Err}
use Rattle.base_streams.specs.States.{InletState, IsReadable}
use Rattle.lab_turn.specs.History.{PassState}
use Rattle.zmtp_wire.specs.Stream.{DecoderState}
use Rattle.zmtp_wire.specs.Receiving.{most_reads}
use Rattle.kern_calls.specs.declared.call.Call.{Call}
use Rattle.kern_calls.specs.declared.call.Call.TheVariants.{Subscribe, Arrive}
use Rattle.kern_calls.specs.declared.call.Reply.{Reply}
use Rattle.kern_calls.specs.declared.fault.KernelFault.{KernelFault}
use Rattle.kern_desk.specs.Seats.{seated_answer}
use Rattle.kern_net.specs.declared.end.PumpEnd.{PumpEnd}
use Rattle.kern_net.specs.declared.end.PumpEnd.TheVariants as pump

-- what is read, and the pass of the calls that are made for it
pub record Reader : Type 0 where
  pub inlet : InletState
  pub pass : PassState Call

-- the calls that reading makes
abbrev pub IsReaderCall : Call → Type 0
IsReaderCall (Subscribe connection subscription) = Unit {0}
IsReaderCall (Arrive connection arrival) = Unit {0}
IsReaderCall _ = ⊥

-- the last call in the history that the pass has seen is its own and comes after these, and this is the
-- answer to it
pub record LastAnswer (old : List Call) (pass : PassState Call)
    (answer : Result Reply KernelFault) : Type 0 where
  pub before : List (ℕ × Call)
  pub call : Call
  pub earlier : List Call
  pub history : pass.seen ≡ before ++ (pass.seat, call) ∷ []
  pub own : pass.calls ≡ old ++ (earlier ++ call ∷ [])
  pub answered : seated_answer before call ≡ answer

-- the end is the refusal of a call that stands in the journal
abbrev pub IsRefusal : PumpEnd → Type 0
IsRefusal (pump.Refused fault) = Unit {0}
IsRefusal _ = ⊥

-- an end by a turn, which comes after these calls, or because memory ran out
abbrev pub StopsBy : PumpEnd → List Call → PassState Call → Type 0
StopsBy pump.OutOfMemory old pass = Unit {0}
StopsBy pump.JournalFull old pass = length pass.seen ≡ pass.turnstile.limit
StopsBy (pump.Refused fault) old pass = LastAnswer old pass (Err fault)
StopsBy pump.OutOfTickets old pass = pass.out_of_tickets ≡ true
StopsBy _ old pass = ⊥

-- or the stream broke
abbrev pub StopsPiece : PumpEnd → List Call → PassState Call → DecoderState → Type 0
StopsPiece (pump.Wire cause) old pass decoder = decoder.fault ≡ Some cause
StopsPiece e old pass decoder = StopsBy e old pass

-- why reading ended, as the pass, the reader, the decoder and the number of reads show it; the reader has
-- ended or failed only if reading ends as PeerEnded or ReadFailed
abbrev pub EndsBy : PumpEnd → Reader → Reader → DecoderState → ℕ → Type 0
EndsBy pump.PeerEnded old new decoder reads = (new.inlet.ended ≡ true) × (new.inlet.failed ≡ false)
EndsBy pump.ReadFailed old new decoder reads =
    (new.inlet.ended ≡ false)
    × ((new.inlet.failed ≡ true) ⊎ ((new.inlet.failed ≡ false) × (reads ≡ most_reads)))
EndsBy e old new decoder reads = IsReadable new.inlet × StopsPiece e old.pass.calls new.pass decoder

-- at these ends all calls were made that the messages ask for
abbrev pub submits_all : PumpEnd → Bool
submits_all pump.PeerEnded = true
submits_all pump.ReadFailed = true
submits_all (pump.Wire cause) = true
submits_all _ = false
