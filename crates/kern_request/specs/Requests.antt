-- What a message asks for, by its channel, its type and its content (Jupyter messaging 5.4).
use Rattle.std.specs.Prelude.{
  ℕ,
  [],
  ◌∷◌,
  ◌++◌,
  Bool,
  true,
  false,
  Option,
  Some,
  None,
  option_map,
  option_and_then,
  codes,
  unwrap_or,
}
use Rattle.base_text.specs.Bytes.{Text}
use Rattle.serde_json.specs.Data.{Data}
use Rattle.serde_json.specs.Find.{get, as_bool}
use Rattle.serde_json.specs.View.{view}
use Rattle.base_text.specs.Latin.{latin_bytes}
use Rattle.jup_wire.specs.declared.channel.Channel.{Channel}
use Rattle.jup_wire.specs.declared.message.Message.{Message}
use Rattle.dap_talk.specs.Argument.{whole, text_at, member_at}
use Rattle.dap_answers.specs.Refusals.{refusal}
use Rattle.dap_talk.specs.Reading.{Reading, not_request, unknown_command, bad_arguments, request, reading}
use Rattle.kern_request.specs.declared.request.RequestBody.{RequestBody}
use Rattle.kern_request.specs.declared.request.RequestBody.TheVariants as body
use Rattle.kern_request.specs.declared.request.NeedyRequest.{NeedyRequest}
use Rattle.kern_request.specs.declared.request.NeedyRequest.TheVariants as needy
use Rattle.kern_request.specs.declared.request.Request.{Request}
use Rattle.kern_request.specs.declared.message_type.MessageType.{MessageType}
use Rattle.kern_request.specs.declared.message_type.MessageType.TheVariants as message
use Rattle.kern_request.specs.MessageTypes.{type_named}

-- ---- members of a content

abbrev pub bool_in : Option Data → Option (Option Bool)
bool_in None = Some None
bool_in (Some d) = option_map Some (as_bool d)

-- a boolean, which may be absent
abbrev pub bool_at : Text → Data → Option (Option Bool)
bool_at key content = option_and_then bool_in (member_at key content)

-- the same with a default
abbrev pub bool_or : Bool → Text → Data → Option Bool
bool_or absent key content = option_map (λ found. unwrap_or found absent) (bool_at key content)

abbrev pub whole_at : Text → Data → Option ℕ
whole_at key content = option_and_then whole (get key content)

-- ---- what is asked for, if the content has all that is needed

abbrev pub execution : Text → Bool → Bool → Bool → RequestBody
execution code silent stores_history allows_stdin =
    body.Execute (record {
      code = code;
      is_silent = silent;
      stores_history = stores_history;
      allows_stdin = allows_stdin;
    })

abbrev pub execute_body : Data → Option RequestBody
execute_body content =
    option_and_then
    (λ code. option_and_then
    (λ silent. option_and_then
    (λ stores_history. option_map (execution code silent stores_history)
    (bool_or true (codes "allow_stdin") content))
    (bool_or true (codes "store_history") content))
    (bool_or false (codes "silent") content))
    (text_at (codes "code") content)

abbrev pub is_complete_body : Data → Option RequestBody
is_complete_body content = option_map body.IsComplete (text_at (codes "code") content)

abbrev pub complete_body : Data → Option RequestBody
complete_body content = option_map body.Complete (whole_at (codes "cursor_pos") content)

abbrev pub comm_open_body : Data → Option RequestBody
comm_open_body content = option_map body.CommOpen (text_at (codes "comm_id") content)

abbrev pub shutdown_body : Data → Option RequestBody
shutdown_body content = option_map body.Shutdown (bool_or false (codes "restart") content)

-- the line that the user typed, with a line feed
abbrev pub typed_line : Text → RequestBody
typed_line value = body.InputReply (latin_bytes value ++ 10 ∷ [])

abbrev pub input_reply_body : Data → Option RequestBody
input_reply_body content = option_map typed_line (text_at (codes "value") content)

-- a debug request, or the response that refuses it
abbrev pub debug_body : Reading → RequestBody
debug_body not_request = body.BadDebug (refusal 0 [] (codes "NotRequest"))
debug_body (unknown_command seq command) = body.BadDebug (refusal seq command (codes "Command"))
debug_body (bad_arguments seq command) = body.BadDebug (refusal seq command (codes "Arguments"))
debug_body (request seq command) = body.Debug (record { seq = seq; command = command })

-- ---- by type and channel

abbrev pub body_or_bad : NeedyRequest → Option RequestBody → RequestBody
body_or_bad needy_request None = body.BadContent needy_request
body_or_bad needy_request (Some found) = found

abbrev pub body_by_type : MessageType → Data → RequestBody
body_by_type message.KernelInfo content = body.KernelInfo
body_by_type message.Execute content = body_or_bad needy.Execute (execute_body content)
body_by_type message.IsComplete content = body_or_bad needy.IsComplete (is_complete_body content)
body_by_type message.Complete content = body_or_bad needy.Complete (complete_body content)
body_by_type message.Inspect content = body.Inspect
body_by_type message.History content = body.History
body_by_type message.CommInfo content = body.CommInfo
body_by_type message.CommOpen content = body_or_bad needy.CommOpen (comm_open_body content)
body_by_type message.Shutdown content = body_or_bad needy.Shutdown (shutdown_body content)
body_by_type message.Interrupt content = body.Interrupt
body_by_type message.Debug content = debug_body (reading content)
body_by_type message.InputReply content = body_or_bad needy.InputReply (input_reply_body content)

abbrev pub body_or_unknown : Option MessageType → Data → RequestBody
body_or_unknown None content = body.Unknown
body_or_unknown (Some message_type) content = body_by_type message_type content

-- what a message of this type on this channel asks for
unfoldable pub body_of : Channel → Text → Data → RequestBody
body_of channel msg_type content = body_or_unknown (type_named channel msg_type) content

-- with what its replies repeat
abbrev pub request_of : Channel → Message → Request
request_of channel m = record {
  body = body_of channel m.header.msg_type (view m.content);
  identities = m.parts.identities;
  header = m.parts.header;
}
