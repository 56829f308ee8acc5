-- The header of a message (Jupyter messaging 5.4, "Message header"). The members of an object stand in the
-- order of their keys' bytes.
use Rattle.std.specs.Prelude.{ℕ, ◌++◌, codes, decimal}
use Rattle.base_text.specs.Bytes.{Text}
use Rattle.serde_json.specs.Data.{Data, string, object, member, no_members}

abbrev pub empty_object : Data
empty_object = object no_members

-- no two messages of a session have the same
abbrev pub message_id : Text → ℕ → Text
message_id session number = session ++ codes "_" ++ decimal number

abbrev pub header_json : Text → Text → ℕ → Text → Data
header_json date session number msg_type = object (
    member (codes "date") (string date) (
    member (codes "msg_id") (string (message_id session number)) (
    member (codes "msg_type") (string msg_type) (
    member (codes "session") (string session) (
    member (codes "username") (string (codes "kernel")) (
    member (codes "version") (string (codes "5.4")) no_members))))))
