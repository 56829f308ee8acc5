-- The bytes that go out (Debug Adapter Protocol, "Base Protocol").
use Rattle.std.specs.Prelude.{ℕ, ◌+◌, List, [], ◌∷◌, ◌++◌, fold}
use Rattle.base_text.specs.Bytes.{Bytes}
use Rattle.serde_json.specs.Written.{compact_text}
use Rattle.dap_stream.specs.Writing.{message_bytes}
use Rattle.dap_messages.specs.declared.message.Message.{Message}
use Rattle.dap_json.specs.Json.{message_json}
use Rattle.dap_messages.specs.Numbering.{from_1, numbering_after}
use Rattle.dap_debugger.specs.declared.sending.Progress.{Progress}

-- before the first message
abbrev pub at_start : Progress
at_start = record { sent = 0; numbering = from_1 }

abbrev pub after_message : Progress → Message → Progress
after_message p message = record { sent = p.sent + 1; numbering = numbering_after p.numbering message }

abbrev pub after_messages : Progress → List Message → Progress
after_messages p messages = fold after_message p messages

-- the JSON of the next message, with no blanks
abbrev pub text_of : Progress → Message → Bytes
text_of p message = compact_text (message_json p.numbering (p.sent + 1) message)

-- the messages after that, one after another
abbrev pub sent_bytes : Progress → List Message → Bytes
sent_bytes p [] = []
sent_bytes p (message ∷ messages) =
    message_bytes (text_of p message) ++ sent_bytes (after_message p message) messages

-- lists one after another
abbrev pub concat_messages : List (List Message) → List Message
concat_messages [] = []
concat_messages (messages ∷ lists) = messages ++ concat_messages lists
