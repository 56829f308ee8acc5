-- JSON frames and what a header has.
use Rattle.std.specs.Prelude.{
  ◌≡◌,
  ◌≤◌,
  false,
  Option,
  Some,
  None,
  codes,
  if◌then◌else◌,
  option_and_then,
}
use Rattle.std.specs.Str.{is_utf8}
use Rattle.base_text.specs.Bytes.{Bytes, Text}
use Rattle.serde_json.specs.Data.{Data, depth}
use Rattle.serde_json.specs.Written.{has_float, compact_text}
use Rattle.serde_json.specs.Read.{read}
use Rattle.serde_json.specs.Find.{get, as_str}
use Rattle.jup_wire.specs.declared.message.Header.{Header}

-- The value of a frame, where it is one JSON text (RFC 8259): in UTF-8, with arrays and objects nested
-- at most 127 deep; of a key that comes twice the last value counts.
unfoldable pub json_of : Bytes → Option Data
json_of frame = if is_utf8 frame then read frame else None

-- the text that an object has at a key
abbrev pub text_at : Text → Data → Option Text
text_at key d = option_and_then as_str (get key d)

-- an object with these texts
pub record IsHeader (d : Data) (h : Header) : Type 0 where
  pub msg_id : text_at (codes "msg_id") d ≡ Some h.msg_id
  pub msg_type : text_at (codes "msg_type") d ≡ Some h.msg_type
  pub session : text_at (codes "session") d ≡ Some h.session

-- the text that is written for a value: if the value nests at most 127 deep, the text reads as this value,
-- and if it has no float, the text is the compact one
pub record IsTextOf (frame : Bytes) (d : Data) : Type 0 where
  pub reads : depth d ≤ 127 → json_of frame ≡ Some d
  pub compact : has_float d ≡ false → frame ≡ compact_text d
