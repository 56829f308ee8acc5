-- Sealing a message: what it is sealed from, and the frames that are sent for it.
use Rattle.std.specs.Prelude.{◌≡◌, ◌≤◌, [], ◌∷◌, ◌++◌, IsSome, Result, IfOk}
use Rattle.std.specs.declared.alloc.AllocError.{AllocError}
use Rattle.base_text.specs.Bytes.{Bytes, Text, Frames}
use Rattle.serde_json.specs.Data.{depth}
use Rattle.serde_json.specs.View.{view}
use Rattle.jup_wire.specs.declared.message.Parts.{Parts}
use Rattle.jup_wire.specs.declared.message.Header.{Header}
use Rattle.jup_wire.specs.declared.sealing.Draft.{Draft}
use Rattle.jup_wire.specs.Signature.{signature}
use Rattle.jup_wire.specs.Json.{json_of, IsHeader, IsTextOf}
use Rattle.jup_wire.specs.Wire.{delimiter, json_frames, NoDelimiter, IsMessage}

-- the signature, or an empty frame if the key is empty
abbrev pub signature_frame : Bytes → Parts → Bytes
signature_frame [] p = []
signature_frame (byte ∷ bytes) p = signature (byte ∷ bytes) (json_frames p)

-- the frames of these parts with these digits, without buffers
abbrev pub frames_of : Parts → Bytes → Frames
frames_of p digits = p.identities ++ delimiter ∷ digits ∷ json_frames p

-- these are texts of the values of the draft
pub record AreTexts (d : Draft) (header metadata content : Text) : Type 0 where
  pub header_text : IsTextOf header (view d.header)
  pub metadata_text : IsTextOf metadata (view d.metadata)
  pub content_text : IsTextOf content (view d.content)

-- these are the parts of what is sent for the draft
pub record IsWrittenFrom (d : Draft) (p : Parts) : Type 0 where
  pub identities : p.identities ≡ d.identities
  pub parent_header : p.parent_header ≡ d.parent_header
  pub texts : AreTexts d p.header p.metadata p.content

-- these frames are sent for the draft
pub record IsSealed (key : Bytes) (d : Draft) (frames : Frames) : Type 0 where
  pub parts : Parts
  pub whole : frames ≡ frames_of parts (signature_frame key parts)
  pub identities : parts.identities ≡ d.identities
  pub header : IsTextOf parts.header (view d.header)
  pub parent_header : parts.parent_header ≡ d.parent_header
  pub metadata : IsTextOf parts.metadata (view d.metadata)
  pub content : IsTextOf parts.content (view d.content)

-- the draft can be opened once it is sealed: no identity is the delimiter, the header has its texts, the
-- parent header is JSON, and nothing nests deeper than 127
pub record IsOpenable (d : Draft) (h : Header) : Type 0 where
  pub identities : NoDelimiter d.identities
  pub header : IsHeader (view d.header) h
  pub header_depth : depth (view d.header) ≤ 127
  pub parent_header : IsSome (json_of d.parent_header)
  pub metadata_depth : depth (view d.metadata) ≤ 127
  pub content_depth : depth (view d.content) ≤ 127

-- sealing the draft under this key has this result; it fails only if memory runs out
pub record Seals (key : Bytes) (d : Draft) (result : Result Frames AllocError) : Type 0 where
  pub sealed : IfOk result (IsSealed key d)
  -- under the same key, `open_message` opens a draft that can be opened
  pub opens : IfOk result (λ frames. (header : Header) → IsOpenable d header
      → (parts : Parts) × IsMessage key frames parts header (view d.content)
      × (parts.identities ≡ d.identities) × (parts.parent_header ≡ d.parent_header))
