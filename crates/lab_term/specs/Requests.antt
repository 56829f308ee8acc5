-- The request that runs a cell (Jupyter messaging 5.4, "The Wire Protocol", "Message header", "Execute").
-- The members of an object stand in the order of their keys' bytes.
use Rattle.std.specs.Prelude.{◌≡◌, ℕ, List, [], codes}
use Rattle.zmtp_wire.specs.Wire.{Bytes, Frames}
use Rattle.serde_json.specs.Data.{Data, string, object, member, no_members}
use Rattle.serde_json.specs.Written.{compact_text}
use Rattle.serde_json.specs.View.{view}
use Rattle.jup_wire.specs.declared.message.Parts.{Parts}
use Rattle.jup_wire.specs.declared.sealing.Draft.{Draft}
use Rattle.jup_wire.specs.Header.{empty_object, header_json}
use Rattle.jup_wire.specs.Seal.{frames_of, signature_frame}
use Rattle.jup_wire.specs.Dates.{IsDate}
use Rattle.lab_term.specs.declared.cell.Cell.{Cell}

-- a client sends one request in its session
abbrev pub request_header : Bytes → Bytes → Data
request_header date session = header_json date session 1 (codes "execute_request")

abbrev pub request_content : Bytes → Data
request_content code = object (member (codes "code") (string code) no_members)

-- the draft that is sealed
pub record IsDraftOf (date session code : Bytes) (d : Draft) : Type 0 where
  pub identities : d.identities ≡ []
  pub header : view d.header ≡ request_header date session
  pub parent_header : d.parent_header ≡ codes "{}"
  pub metadata : view d.metadata ≡ empty_object
  pub content : view d.content ≡ request_content code

-- no identities; the JSON parts are the compact texts of their values
abbrev pub request_parts : Bytes → Bytes → Bytes → Parts
request_parts date session code = record {
  identities = [];
  header = compact_text (request_header date session);
  parent_header = codes "{}";
  metadata = compact_text empty_object;
  content = compact_text (request_content code);
}

-- the frames under a key
abbrev pub request_frames : Bytes → Bytes → Bytes → Bytes → Frames
request_frames key date session code =
    frames_of (request_parts date session code) (signature_frame key (request_parts date session code))

-- the request of the cell has these frames, and this header in them
pub record IsRequest (cell : Cell) (header : Bytes) (frames : Frames) : Type 0 where
  pub date : Bytes
  pub dated : IsDate cell.unix_seconds date
  pub header_is : header ≡ compact_text (request_header date cell.session.now)
  pub frames_are : frames ≡ request_frames cell.key.now date cell.session.now cell.code.now
