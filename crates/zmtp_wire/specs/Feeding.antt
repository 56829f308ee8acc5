-- What `Decoder::feed` does to a decoder.
use Rattle.std.specs.Prelude.{◌≡◌, Some, None, [], Result, Err, IfOk, IfErr, OnOk}
use Rattle.zmtp_wire.specs.Wire.{Bytes, Messages}
use Rattle.zmtp_wire.specs.declared.fault.StreamFault.{StreamFault}
use Rattle.zmtp_wire.specs.declared.fault.FeedFault.{FeedFault}
use Rattle.zmtp_wire.specs.declared.fault.FeedFault.TheVariants.{OutOfMemory, Broken}
use Rattle.zmtp_wire.specs.Stream.{DecoderState, Completes}

-- if memory runs out, the side is as it was; else the stream is broken, after the messages before the fault
abbrev pub FeedFails : DecoderState → Bytes → FeedFault → DecoderState → Type 0
FeedFails old piece OutOfMemory new = new ≡ old
FeedFails old piece (Broken before cause) new = Completes old piece before new × (new.fault ≡ Some cause)

-- the result is this fault, with no messages before it
abbrev pub IsBroken : Result Messages FeedFault → StreamFault → Type 0
IsBroken result cause = result ≡ Err (Broken [] cause)

-- feeding this piece to a side has this result, and takes the side from old to new
pub record TakesPiece (old : DecoderState) (piece : Bytes) (result : Result Messages FeedFault)
    (new : DecoderState) : Type 0 where
  pub ok : IfOk result (λ out. Completes old piece out new)
  pub good : OnOk result (new.fault ≡ None)
  pub err : IfErr result (λ fault. FeedFails old piece fault new)
  -- after a fault, each piece has the same result and changes nothing
  pub stored : (cause : StreamFault) → old.fault ≡ Some cause → IsBroken result cause × (new ≡ old)
