-- The content of each message (Jupyter messaging, "Messages on the shell (ROUTER/DEALER) channel",
-- "Messages on the IOPub (PUB/SUB) channel", "Messages on the stdin (ROUTER/DEALER) channel"). The
-- members of an object are in the order of their keys' bytes.
use Rattle.std.specs.Prelude.{ℕ, Bool, true, false, List, [], ◌∷◌, codes}
use Rattle.base_text.specs.Bytes.{Bytes, Text}
use Rattle.serde_json.specs.Data.{Data, boolean, string}
use Rattle.base_text.specs.Latin.{latin_text}
use Rattle.dap_answers.specs.Json.{object_of, whole_number, list_of, response_json, event_json}
use Rattle.kern_post.specs.declared.content.ExecutionState.{ExecutionState}
use Rattle.kern_post.specs.declared.content.ExecutionState.TheVariants as state
use Rattle.kern_post.specs.declared.content.Cause.{Cause}
use Rattle.kern_post.specs.declared.content.Cause.TheVariants.{BadContent}
use Rattle.kern_post.specs.declared.content.Ending.{Ending}
use Rattle.kern_post.specs.declared.content.Ending.TheVariants as ending
use Rattle.kern_post.specs.declared.content.Completeness.{Completeness}
use Rattle.kern_post.specs.declared.content.Completeness.TheVariants as completeness
use Rattle.kern_post.specs.declared.content.Content.{Content}
use Rattle.kern_post.specs.declared.content.Content.TheVariants as content
use Rattle.kern_render.specs.Causes.{ename_of, evalue_of, traceback_of}

abbrev pub empty_object : Data
empty_object = object_of []

abbrev pub empty_list : Data
empty_list = list_of string []

-- ---- iopub and stdin

abbrev pub state_text : ExecutionState → Text
state_text state.Busy = codes "busy"
state_text state.Idle = codes "idle"

abbrev pub status_json : ExecutionState → Data
status_json s = object_of ((codes "execution_state", string (state_text s)) ∷ [])

abbrev pub execute_input_json : Text → ℕ → Data
execute_input_json code count = object_of (
    (codes "code", string code) ∷
    (codes "execution_count", whole_number count) ∷ [])

-- the bytes are Latin-1
abbrev pub stream_json : Bytes → Data
stream_json bytes = object_of (
    (codes "name", string (codes "stdout")) ∷
    (codes "text", string (latin_text bytes)) ∷ [])

abbrev pub input_request_json : Data
input_request_json = object_of (
    (codes "password", boolean false) ∷
    (codes "prompt", string []) ∷ [])

-- the members that an error and each error reply have
abbrev pub cause_members : Cause → List (Text × Data)
cause_members c =
    (codes "ename", string (ename_of c)) ∷
    (codes "evalue", string (evalue_of c)) ∷
    (codes "traceback", traceback_of c) ∷ []

abbrev pub error_json : Cause → Data
error_json c = object_of (cause_members c)

abbrev pub comm_close_json : Text → Data
comm_close_json comm_id = object_of (
    (codes "comm_id", string comm_id) ∷
    (codes "data", empty_object) ∷ [])

-- ---- replies

abbrev pub language_json : Data
language_json = object_of (
    (codes "file_extension", string (codes ".asm")) ∷
    (codes "mimetype", string (codes "text/x-asm")) ∷
    (codes "name", string (codes "i8080")) ∷
    (codes "version", string (codes "1.0")) ∷ [])

abbrev pub kernel_info_json : Data
kernel_info_json = object_of (
    (codes "banner", string (codes "Intel 8080 laboratory")) ∷
    (codes "debugger", boolean true) ∷
    (codes "help_links", empty_list) ∷
    (codes "implementation", string (codes "lab80")) ∷
    (codes "implementation_version", string (codes "1.0")) ∷
    (codes "language_info", language_json) ∷
    (codes "protocol_version", string (codes "5.4")) ∷
    (codes "status", string (codes "ok")) ∷ [])

abbrev pub execute_reply_json : ℕ → Ending → Data
execute_reply_json count ending.Done = object_of (
    (codes "execution_count", whole_number count) ∷
    (codes "payload", empty_list) ∷
    (codes "status", string (codes "ok")) ∷
    (codes "user_expressions", empty_object) ∷ [])
execute_reply_json count (ending.Failed c) = object_of (
    (codes "ename", string (ename_of c)) ∷
    (codes "evalue", string (evalue_of c)) ∷
    (codes "execution_count", whole_number count) ∷
    (codes "status", string (codes "error")) ∷
    (codes "traceback", traceback_of c) ∷ [])

abbrev pub is_complete_json : Completeness → Data
is_complete_json completeness.Complete = object_of (
    (codes "status", string (codes "complete")) ∷ [])
is_complete_json completeness.Incomplete = object_of (
    (codes "indent", string []) ∷
    (codes "status", string (codes "incomplete")) ∷ [])
is_complete_json completeness.Invalid = object_of (
    (codes "status", string (codes "invalid")) ∷ [])

abbrev pub complete_json : ℕ → Data
complete_json cursor_pos = object_of (
    (codes "cursor_end", whole_number cursor_pos) ∷
    (codes "cursor_start", whole_number cursor_pos) ∷
    (codes "matches", empty_list) ∷
    (codes "metadata", empty_object) ∷
    (codes "status", string (codes "ok")) ∷ [])

abbrev pub inspect_json : Data
inspect_json = object_of (
    (codes "data", empty_object) ∷
    (codes "found", boolean false) ∷
    (codes "metadata", empty_object) ∷
    (codes "status", string (codes "ok")) ∷ [])

abbrev pub history_json : Data
history_json = object_of (
    (codes "history", empty_list) ∷
    (codes "status", string (codes "ok")) ∷ [])

abbrev pub comm_info_json : Data
comm_info_json = object_of (
    (codes "comms", empty_object) ∷
    (codes "status", string (codes "ok")) ∷ [])

abbrev pub shutdown_json : Bool → Data
shutdown_json restarts = object_of (
    (codes "restart", boolean restarts) ∷
    (codes "status", string (codes "ok")) ∷ [])

abbrev pub interrupt_json : Data
interrupt_json = object_of ((codes "status", string (codes "ok")) ∷ [])

abbrev pub error_reply_json : Cause → Data
error_reply_json c = object_of (
    (codes "ename", string (ename_of c)) ∷
    (codes "evalue", string (evalue_of c)) ∷
    (codes "status", string (codes "error")) ∷
    (codes "traceback", traceback_of c) ∷ [])

-- ---- any content, in the post with this number

abbrev pub content_json : ℕ → Content → Data
content_json number (content.Status state) = status_json state
content_json number (content.ExecuteInput code count) = execute_input_json code count
content_json number (content.Stream bytes) = stream_json bytes
content_json number content.InputRequest = input_request_json
content_json number (content.Error cause) = error_json cause
content_json number (content.CommClose comm_id) = comm_close_json comm_id
content_json number (content.DebugEvent event) = event_json number event
content_json number content.KernelInfoReply = kernel_info_json
content_json number (content.ExecuteReply count ending) = execute_reply_json count ending
content_json number (content.IsCompleteReply completeness) = is_complete_json completeness
content_json number (content.CompleteReply cursor_pos) = complete_json cursor_pos
content_json number content.InspectReply = inspect_json
content_json number content.HistoryReply = history_json
content_json number content.CommInfoReply = comm_info_json
content_json number (content.ShutdownReply restarts) = shutdown_json restarts
content_json number content.InterruptReply = interrupt_json
content_json number (content.DebugReply response) = response_json number response
content_json number (content.BadContentReply request) = error_reply_json BadContent
