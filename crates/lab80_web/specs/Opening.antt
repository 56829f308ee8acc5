-- The request in the frames of a Jupyter message with the empty key, as jup_wire opens it.
use Rattle.std.specs.Prelude.{[], ◌∷◌, Option, Some, None, codes, if◌then◌else◌}
use Rattle.std.specs.Prelude.{option_map, option_and_then}
use Rattle.std.specs.Str.{bytes_eq}
use Rattle.base_text.specs.Bytes.{Bytes, Text, Frames}
use Rattle.serde_json.specs.Data.{Data}
use Rattle.jup_wire.specs.declared.channel.Channel.{Channel}
use Rattle.jup_wire.specs.Json.{json_of, text_at}
use Rattle.jup_wire.specs.Wire.{delimiter}
use Rattle.kern_request.specs.declared.request.Request.{Request}
use Rattle.kern_request.specs.Requests.{body_of}

-- the frames before the first delimiter, and those behind it
abbrev pub with_identity : Bytes → Frames × Frames → Frames × Frames
with_identity identity (identities, behind) = (identity ∷ identities, behind)

abbrev pub around_delimiter : Frames → Option (Frames × Frames)
around_delimiter [] = None
around_delimiter (frame ∷ frames) =
    if bytes_eq frame delimiter then Some ([], frames)
    else option_map (with_identity frame) (around_delimiter frames)

-- the type of a message, if its header has the three texts that every header has
abbrev pub type_in : Data → Option Text
type_in header = option_and_then
    (λ _. option_and_then (λ msg_type. option_map (λ _. msg_type) (text_at (codes "session") header))
    (text_at (codes "msg_type") header))
    (text_at (codes "msg_id") header)

-- the request with these identities and this header frame, by the type of the header and the content
abbrev pub request_with : Channel → Frames → Bytes → Text → Data → Request
request_with channel identities header msg_type content = record {
  body = body_of channel msg_type content;
  identities = identities;
  header = header;
}

-- what the header and the content give, where these, the parent header and the metadata are all JSON texts
abbrev pub by_json : Option Data → Option Data → Option Data → Option Data → (Data → Data → Option Request)
    → Option Request
by_json (Some header) (Some parent_header) (Some metadata) (Some content) f = f header content
by_json _ _ _ _ f = None

abbrev pub request_behind : Channel → Frames → Frames → Option Request
request_behind channel identities (signature ∷ header ∷ parent_header ∷ metadata ∷ content ∷ buffers) =
    by_json (json_of header) (json_of parent_header) (json_of metadata) (json_of content)
    (λ value body. option_map (λ msg_type. request_with channel identities header msg_type body)
    (type_in value))
request_behind channel identities _ = None

abbrev pub request_in : Channel → Frames → Option Request
request_in channel frames =
    option_and_then (λ parts. request_behind channel parts.0 parts.1) (around_delimiter frames)
