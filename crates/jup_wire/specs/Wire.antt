-- The frames of a message (Jupyter messaging 5.4, "The wire protocol"), and which frames are refused.
use Rattle.std.specs.Prelude.{◌≡◌, ◌≢◌, ◌⊎◌, ◌<◌, [], ◌∷◌, ◌++◌, length, Some, codes, IsSome}
use Rattle.std.specs.Prelude.{Result, IfOk, IfErr, IsErrAnd, MatchResult}
use Rattle.std.specs.List.{AllByRecursion}
use Rattle.base_text.specs.Bytes.{Bytes, Frames}
use Rattle.serde_json.specs.Data.{Data}
use Rattle.serde_json.specs.View.{view}
use Rattle.jup_wire.specs.declared.message.Parts.{Parts}
use Rattle.jup_wire.specs.declared.message.Header.{Header}
use Rattle.jup_wire.specs.declared.message.Message.{Message}
use Rattle.jup_wire.specs.declared.message.WireFault.{WireFault}
use Rattle.jup_wire.specs.declared.message.WireFault.TheVariants as fault
use Rattle.jup_wire.specs.Signature.{signature}
use Rattle.jup_wire.specs.Json.{json_of, IsHeader}

abbrev pub delimiter : Bytes
delimiter = codes "<IDS|MSG>"

abbrev pub NoDelimiter : Frames → Type 0
NoDelimiter frames = AllByRecursion (λ frame. frame ≢ delimiter) frames

-- the four frames that are signed
abbrev pub json_frames : Parts → Frames
json_frames p = p.header ∷ p.parent_header ∷ p.metadata ∷ p.content ∷ []

-- the identities up to the first delimiter, the delimiter, the signature, the JSON frames, any buffers
pub record HasParts (frames : Frames) (digits : Bytes) (p : Parts) : Type 0 where
  pub buffers : Frames
  pub whole : frames ≡ p.identities ++ delimiter ∷ digits ∷ (json_frames p ++ buffers)
  pub first : NoDelimiter p.identities

-- the digits are the signature, unless the key is empty
abbrev pub IsSigned : Bytes → Bytes → Parts → Type 0
IsSigned key digits p = (key ≡ []) ⊎ (digits ≡ signature key (json_frames p))

abbrev pub AreJson : Parts → Type 0
AreJson p = AllByRecursion (λ frame. IsSome (json_of frame)) (json_frames p)

-- under this key the frames are a message with these parts, this header and this content
pub record IsMessage (key : Bytes) (frames : Frames) (p : Parts) (h : Header) (content : Data)
    : Type 0 where
  pub digits : Bytes
  pub parts : HasParts frames digits p
  pub signed : IsSigned key digits p
  pub json : AreJson p
  pub header_value : Data
  pub header_json : json_of p.header ≡ Some header_value
  pub header : IsHeader header_value h
  pub content_json : json_of p.content ≡ Some content

-- there is a delimiter, and fewer than five frames follow the first one
pub record LacksFrames (frames : Frames) : Type 0 where
  pub before : Frames
  pub after : Frames
  pub whole : frames ≡ before ++ delimiter ∷ after
  pub first : NoDelimiter before
  pub few : length after < 5

-- the frames have parts, and these are signed
abbrev pub OpensUpTo : Bytes → Frames → (Parts → Type 0) → Type 0
OpensUpTo key frames P =
    (digits : Bytes) × (p : Parts) × HasParts frames digits p × IsSigned key digits p × P p

-- Why frames are refused under a key. A reason holds only if none before it does. Memory can run out only for
-- frames that are signed.
abbrev pub IsRefused : Bytes → Frames → WireFault → Type 0
IsRefused key frames fault.OutOfMemory = OpensUpTo key frames (λ p. Unit {0})
IsRefused key frames fault.Delimiter = NoDelimiter frames
IsRefused key frames fault.Count = LacksFrames frames
IsRefused key frames fault.Signature =
    (digits : Bytes) × (p : Parts) × HasParts frames digits p × (¬ IsSigned key digits p)
IsRefused key frames fault.Json = OpensUpTo key frames (λ p. ¬ AreJson p)
IsRefused key frames fault.Header =
    OpensUpTo key frames
    (λ p. AreJson p × ((d : Data) (h : Header) → json_of p.header ≡ Some d → ¬ IsHeader d h))

-- opening the frames under this key has this result: the message that they are, or why they are refused
pub record Opens (key : Bytes) (frames : Frames) (result : Result Message WireFault) : Type 0 where
  pub message : IfOk result (λ m. IsMessage key frames m.parts m.header (view m.content))
  pub refused : IfErr result (IsRefused key frames)
  -- if the frames are a message, the result is that message, unless memory runs out
  pub only : (parts : Parts) (header : Header) (content : Data) → IsMessage key frames parts header content
      → MatchResult result
      (λ m. (m.parts ≡ parts) × (m.header ≡ header) × (view m.content ≡ content))
      (λ e. e ≡ fault.OutOfMemory)
  -- if there is a reason to refuse the frames, it is the result, unless memory runs out
  pub first : (reason : WireFault) → IsRefused key frames reason → reason ≢ fault.OutOfMemory
      → IsErrAnd result (λ e. (e ≡ reason) ⊎ (e ≡ fault.OutOfMemory))
