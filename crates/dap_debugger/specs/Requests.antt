-- The request in the body of a message.
use Rattle.std.specs.Prelude.{Option, Some, None, if◌then◌else◌}
use Rattle.std.specs.Str.{is_utf8}
use Rattle.base_text.specs.Bytes.{Bytes}
use Rattle.serde_json.specs.Data.{Data}
use Rattle.serde_json.specs.Read.{read}
use Rattle.dap_messages.specs.declared.message.Numbering.{Numbering}
use Rattle.dap_requests.specs.declared.request.EditorRequest.{EditorRequest}
use Rattle.dap_reading.specs.Reading.{editor_request, unreadable}

-- the value of a body that is one JSON text in UTF-8 (RFC 8259), with arrays and objects nested at most 127
-- deep
unfoldable pub json_of : Bytes → Option Data
json_of body = if is_utf8 body then read body else None

-- a body that isn't JSON is read as a request that is none
abbrev pub request_in : Numbering → Option Data → EditorRequest
request_in numbering None = unreadable
request_in numbering (Some json) = editor_request numbering json

-- the request in a body of an editor that counts so
abbrev pub request_of : Numbering → Bytes → EditorRequest
request_of numbering body = request_in numbering (json_of body)
