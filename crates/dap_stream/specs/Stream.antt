-- What a stream of bytes says (DAP, "Base protocol"): messages, each a header part and a content part.
use Rattle.std.specs.Prelude.{◌≡◌, ℕ, ◌<◌, ◌≤◌, Option, Some, None, [], ◌∷◌, ◌++◌, length}
use Rattle.dap_stream.specs.Wire.{Bytes, Bodies}
use Rattle.dap_stream.specs.Header.{IsHeaderOf}
use Rattle.dap_stream.specs.Faults.{Begins, BreaksHeader}
use Rattle.dap_stream.specs.declared.fault.StreamFault.{StreamFault}
use Rattle.dap_stream.specs.declared.fault.StreamFault.TheVariants as fault

-- a header within the limit, and a body of the size that it says
pub record IsMessage (raw body : Bytes) : Type 0 where
  pub header : Bytes
  pub header_is : IsHeaderOf header (length body)
  pub few : length header ≤ 1024
  pub spelled : raw ≡ header ++ body

-- the bytes are whole messages of these bodies, and then the rest
pub data Reads : Bytes → Bodies → Bytes → Type 0 where
  Stays : (bytes : Bytes) → Reads bytes [] bytes
  Goes : (bytes raw others body rest : Bytes) (bodies : Bodies) → IsMessage raw body → bytes ≡ raw ++ others
      → Reads others bodies rest → Reads bytes (body ∷ bodies) rest

-- what has come of a message isn't whole: a header can go on from here, or bytes of the body are to come
pub data IsPartial (bytes : Bytes) : Type 0 where
  InHeader : Begins bytes → length bytes < 1024 → IsPartial bytes
  InBody : (header others : Bytes) (size : ℕ) → IsHeaderOf header size → length header ≤ 1024
      → bytes ≡ header ++ others → length others < size → IsPartial bytes

-- no message can begin as these bytes do: with one of the first 1,024 no header can go on, or these are still
-- none that is whole
pub data IsFault (bytes : Bytes) (c : StreamFault) : Type 0 where
  InLine : (front others : Bytes) (byte : ℕ) → bytes ≡ front ++ byte ∷ others → length front < 1024
      → BreaksHeader front byte c → IsFault bytes c
  InSize : (front others : Bytes) → bytes ≡ front ++ others → length front ≡ 1024 → Begins front
      → c ≡ fault.HeaderSize → IsFault bytes c

-- what a decoder keeps of its stream
pub record DecoderState : Type 0 where
  pub rest : Bytes
  pub fault : Option StreamFault

-- after the whole messages comes the rest that the decoder keeps, or a fault, and then it keeps none
abbrev pub EndsIn : DecoderState → Bytes → Option StreamFault → Type 0
EndsIn s rest None = (rest ≡ s.rest) × IsPartial rest
EndsIn s rest (Some c) = (s.rest ≡ []) × IsFault rest c

-- the decoder has read this stream, and these were all the bodies in it
pub record HasReadBodies (s : DecoderState) (stream : Bytes) (bodies : Bodies) : Type 0 where
  pub rest : Bytes
  pub reads : Reads stream bodies rest
  pub ends : EndsIn s rest s.fault

-- whatever the stream was before, this piece comes after it, and completes these messages
abbrev pub Completes : DecoderState → Bytes → Bodies → DecoderState → Type 0
Completes old piece bodies new =
    (stream : Bytes) (before : Bodies) → HasReadBodies old stream before
    → HasReadBodies new (stream ++ piece) (before ++ bodies)
