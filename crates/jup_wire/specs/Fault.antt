-- Why the steps of opening a message refuse it.
use Rattle.std.specs.Prelude.{◌≡◌, ℕ, Some, take, slice_get}
use Rattle.base_text.specs.Bytes.{Frames}
use Rattle.jup_wire.specs.declared.message.WireFault.{WireFault}
use Rattle.jup_wire.specs.declared.message.WireFault.TheVariants.{OutOfMemory, Json, Header}
use Rattle.serde_json.specs.Data.{Data}
use Rattle.jup_wire.specs.declared.message.Parts.{Parts}
use Rattle.jup_wire.specs.declared.message.Header as declared
use Rattle.jup_wire.specs.Json.{json_of, IsHeader}
use Rattle.jup_wire.specs.Wire.{delimiter, NoDelimiter, AreJson}

-- out of memory; or `Json`, and P
abbrev pub JsonFault : WireFault → Type 0 → Type 0
JsonFault OutOfMemory P = Unit {0}
JsonFault Json P = P
JsonFault _ P = ⊥

-- out of memory; or `Header`, and P
abbrev pub HeaderFault : WireFault → Type 0 → Type 0
HeaderFault OutOfMemory P = Unit {0}
HeaderFault Header P = P
HeaderFault _ P = ⊥

-- the parts are JSON, with this header and this content
pub record IsRead (p : Parts) (h : declared.Header) (content : Data) : Type 0 where
  pub json : AreJson p
  pub header_value : Data
  pub header_json : json_of p.header ≡ Some header_value
  pub header : IsHeader header_value h
  pub content_json : json_of p.content ≡ Some content

-- the first delimiter is here
pub record FirstDelimiter (frames : Frames) (at : ℕ) : Type 0 where
  pub here : slice_get frames at ≡ Some delimiter
  pub before : NoDelimiter (take at frames)
