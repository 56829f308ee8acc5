-- What a feed of a piece comes to.
use Rattle.std.specs.Prelude.{◌≡◌, Option, Some, None, [], Result, Ok, Err, IfOk, IfErr, OnOk, drop}
use Rattle.dap_stream.specs.Wire.{Bytes, Bodies}
use Rattle.dap_stream.specs.declared.fault.StreamFault.{StreamFault}
use Rattle.dap_stream.specs.declared.fault.FeedFault.{FeedFault}
use Rattle.dap_stream.specs.declared.fault.FeedFault.TheVariants.{OutOfMemory, Broken}
use Rattle.dap_stream.specs.declared.reading.Reading.{Reading}
use Rattle.dap_stream.specs.Stream.{DecoderState, Completes}

-- out of memory, the decoder is as it was; else the stream is broken, after the bodies before the fault
abbrev pub FeedFails : DecoderState → Bytes → FeedFault → DecoderState → Type 0
FeedFails old piece OutOfMemory new = new ≡ old
FeedFails old piece (Broken before cause) new = Completes old piece before new × (new.fault ≡ Some cause)

-- the answer is this fault, with no bodies before it
abbrev pub IsBroken : Result Bodies FeedFault → StreamFault → Type 0
IsBroken answer cause = answer ≡ Err (Broken [] cause)

-- what a feed of a piece returns, and the decoder after it
pub record Feeds (old : DecoderState) (piece : Bytes) (new : DecoderState)
    (answer : Result Bodies FeedFault) : Type 0 where
  pub ok : IfOk answer (λ bodies. Completes old piece bodies new)
  pub good : OnOk answer (new.fault ≡ None)
  pub err : IfErr answer (λ fault. FeedFails old piece fault new)
  -- after a fault each piece returns that fault, and changes nothing
  pub stored : (cause : StreamFault) → old.fault ≡ Some cause → IsBroken answer cause × (new ≡ old)

-- the answer and the decoder after these bodies, with this rest behind them or this fault
abbrev pub Leads : Bodies → Bytes → Option StreamFault → DecoderState → Result Bodies FeedFault → Type 0
Leads bodies rest None new answer = (answer ≡ Ok bodies) × (new ≡ record { rest = rest; fault = None })
Leads bodies rest (Some c) new answer =
    (answer ≡ Err (Broken bodies c)) × (new ≡ record { rest = []; fault = Some c })

-- what a reading comes to: its bodies, and the rest that follows them; or its fault, and then nothing is kept
abbrev pub GoesOn : Reading → DecoderState → DecoderState → Result Bodies FeedFault → Type 0
GoesOn reading old new answer =
    Leads reading.bodies.items (drop reading.used old.rest) reading.fault new answer
