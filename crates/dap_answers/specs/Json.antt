-- The JSON of answers (Debug Adapter Protocol, "Base Protocol", "Events", "Requests", "Types";
-- Jupyter messaging, "Debug request"). The members of an object stand in the order of their keys'
-- bytes.
use Rattle.std.specs.Prelude.{ℕ, Bool, true, false, Option, Some, None, List, [], ◌∷◌, ◌++◌, map, codes}
use Rattle.std.specs.List.{join_with_byte}
use Rattle.base_text.specs.Bytes.{Bytes, Text}
use Rattle.base_text.specs.Hexadecimal.{upper_byte, lower_word}
use Rattle.serde_json.specs.Data.{
  Data,
  boolean,
  number,
  unsigned,
  string,
  array,
  object,
  Members,
  no_members,
  member,
}
use Rattle.serde_json.specs.View.{items_of}
use Rattle.lab_shown.specs.declared.shown.Breakpoint.{Breakpoint}
use Rattle.lab_shown.specs.declared.shown.StackFrame.{StackFrame}
use Rattle.lab_shown.specs.declared.shown.Variable.{Variable}
use Rattle.lab_shown.specs.declared.shown.CodeLine.{CodeLine}
use Rattle.lab_shown.specs.declared.shown.SourceBreakpoints.{SourceBreakpoints}
use Rattle.dap_answers.specs.declared.answer.DebugState.{DebugState}
use Rattle.dap_answers.specs.declared.answer.Body.{Body}
use Rattle.dap_answers.specs.declared.answer.Body.TheVariants as body
use Rattle.dap_answers.specs.declared.answer.Outcome.{Outcome}
use Rattle.dap_answers.specs.declared.answer.Outcome.TheVariants.{Success, Refused}
use Rattle.dap_answers.specs.declared.answer.Response.{Response}
use Rattle.lab_shown.specs.declared.scope.Scope.{Scope}
use Rattle.lab_shown.specs.declared.scope.Scope.TheVariants as scope
use Rattle.lab_shown.specs.Scopes.{reference_of, every_scope}
use Rattle.dap_answers.specs.declared.answer.StopReason.{StopReason}
use Rattle.dap_answers.specs.declared.answer.StopReason.TheVariants as stop
use Rattle.dap_answers.specs.declared.answer.Event.{Event}
use Rattle.dap_answers.specs.declared.answer.Event.TheVariants as event

abbrev pub members_from : List (Text × Data) → Members
members_from [] = no_members
members_from (m ∷ ms) = member m.0 m.1 (members_from ms)

abbrev pub object_of : List (Text × Data) → Data
object_of ms = object (members_from ms)

abbrev pub whole_number : ℕ → Data
whole_number n = number (unsigned n)

abbrev pub list_of : {T : Type 0} → (T → Data) → List T → Data
list_of f xs = array (items_of (map f xs))

-- ---- texts

abbrev pub space : ℕ
space = 32

-- `0x` and four digits in lower case
abbrev pub reference : ℕ → Text
reference address = codes "0x" ++ lower_word address

-- two digits in upper case for each byte, with a space between
abbrev pub spaced_bytes : Bytes → Text
spaced_bytes bytes = join_with_byte space (map upper_byte bytes)

-- ---- parts of bodies

abbrev pub source_json : Text → Data
source_json path = object_of ((codes "path", string path) ∷ [])

abbrev pub breakpoint_json : Breakpoint → Data
breakpoint_json b = object_of (
    (codes "line", whole_number b.line) ∷
    (codes "verified", boolean b.is_verified) ∷ [])

-- the members of every frame, with a source or without one
abbrev pub bare_frame : StackFrame → List (Text × Data)
bare_frame f =
    (codes "column", whole_number 1) ∷
    (codes "id", whole_number f.id) ∷
    (codes "instructionPointerReference", string (reference f.address)) ∷
    (codes "line", whole_number f.line) ∷
    (codes "name", string f.name) ∷ []

-- a frame without a source has no `source`
abbrev pub source_members : Option Text → List (Text × Data)
source_members None = []
source_members (Some path) = (codes "source", source_json path) ∷ []

abbrev pub frame_json : StackFrame → Data
frame_json f = object_of (bare_frame f ++ source_members f.source)

abbrev pub variable_json : Variable → Data
variable_json v = object_of (
    (codes "name", string v.name) ∷
    (codes "value", string v.value) ∷
    (codes "variablesReference", whole_number 0) ∷ [])

abbrev pub instruction_json : CodeLine → Data
instruction_json i = object_of (
    (codes "address", string (reference i.address)) ∷
    (codes "instruction", string i.text) ∷
    (codes "instructionBytes", string (spaced_bytes i.bytes)) ∷ [])

abbrev pub line_json : ℕ → Data
line_json line = object_of ((codes "line", whole_number line) ∷ [])

abbrev pub source_breakpoints_json : SourceBreakpoints → Data
source_breakpoints_json s = object_of (
    (codes "breakpoints", list_of line_json s.lines) ∷
    (codes "source", string s.path) ∷ [])

abbrev pub thread_json : Data
thread_json = object_of (
    (codes "id", whole_number 1) ∷
    (codes "name", string (codes "8080")) ∷ [])

abbrev pub scope_json : Text → Scope → Bool → Data
scope_json name scope expensive = object_of (
    (codes "expensive", boolean expensive) ∷
    (codes "name", string name) ∷
    (codes "variablesReference", whole_number (reference_of scope)) ∷ [])

abbrev pub scope_of : Scope → Data
scope_of scope.Registers = scope_json (codes "Registers") scope.Registers false
scope_of scope.Flags = scope_json (codes "Flags") scope.Flags false
scope_of scope.Devices = scope_json (codes "Devices") scope.Devices false
scope_of scope.Symbols = scope_json (codes "Symbols") scope.Symbols false
scope_of scope.Memory = scope_json (codes "Memory") scope.Memory true

abbrev pub stopped_threads : Bool → Data
stopped_threads true = list_of whole_number (1 ∷ [])
stopped_threads false = list_of whole_number []

-- ---- bodies

abbrev pub debug_state_json : DebugState → Data
debug_state_json d = object_of (
    (codes "breakpoints", list_of source_breakpoints_json d.breakpoints) ∷
    (codes "exceptionPaths", list_of string []) ∷
    (codes "hashMethod", string (codes "Murmur2")) ∷
    (codes "hashSeed", whole_number 0) ∷
    (codes "isStarted", boolean d.is_attached) ∷
    (codes "richRendering", boolean false) ∷
    (codes "stoppedThreads", stopped_threads d.is_stopped) ∷
    (codes "tmpFilePrefix", string (codes "/tmp/i8080_lab/")) ∷
    (codes "tmpFileSuffix", string (codes ".asm")) ∷ [])

abbrev pub capabilities_json : Data
capabilities_json = object_of (
    (codes "supportsConfigurationDoneRequest", boolean true) ∷
    (codes "supportsDisassembleRequest", boolean true) ∷
    (codes "supportsSetVariable", boolean true) ∷
    (codes "supportsSteppingGranularity", boolean true) ∷ [])

abbrev pub threads_json : Data
threads_json = object_of ((codes "threads", array (items_of (thread_json ∷ []))) ∷ [])

abbrev pub stack_trace_json : List StackFrame → ℕ → Data
stack_trace_json frames total = object_of (
    (codes "stackFrames", list_of frame_json frames) ∷
    (codes "totalFrames", whole_number total) ∷ [])

-- an object with one array
abbrev pub one_list : {T : Type 0} → Text → (T → Data) → List T → Data
one_list key f xs = object_of ((key, list_of f xs) ∷ [])

abbrev pub body_json : Body → Data
body_json body.Empty = object_of []
body_json body.Capabilities = capabilities_json
body_json (body.Breakpoints bs) = one_list (codes "breakpoints") breakpoint_json bs
body_json body.Threads = threads_json
body_json (body.StackTrace frames total) = stack_trace_json frames total
body_json body.Scopes = one_list (codes "scopes") scope_of every_scope
body_json (body.Variables vs) = one_list (codes "variables") variable_json vs
body_json (body.Value t) = object_of ((codes "value", string t) ∷ [])
body_json body.Continued = object_of ((codes "allThreadsContinued", boolean true) ∷ [])
body_json (body.Instructions is) = one_list (codes "instructions") instruction_json is
body_json (body.Content t) = object_of ((codes "content", string t) ∷ [])
body_json (body.SourcePath path) = object_of ((codes "sourcePath", string path) ∷ [])
body_json (body.DebugState d) = debug_state_json d

-- ---- messages

-- the members of every response, without its command
abbrev pub bare_response : ℕ → ℕ → Bool → List (Text × Data)
bare_response seq request_seq success =
    (codes "request_seq", whole_number request_seq) ∷
    (codes "seq", whole_number seq) ∷
    (codes "success", boolean success) ∷
    (codes "type", string (codes "response")) ∷ []

abbrev pub success_json : ℕ → ℕ → Text → Body → Data
success_json seq request_seq command b = object_of (
    (codes "body", body_json b) ∷
    (codes "command", string command) ∷ bare_response seq request_seq true)

abbrev pub refusal_json : ℕ → ℕ → Text → Text → Data
refusal_json seq request_seq command message = object_of (
    (codes "command", string command) ∷
    (codes "message", string message) ∷ bare_response seq request_seq false)

-- a success has a body and no message, a refusal a message and no body
abbrev pub outcome_json : ℕ → ℕ → Text → Outcome → Data
outcome_json seq request_seq command (Success b) = success_json seq request_seq command b
outcome_json seq request_seq command (Refused message) =
    refusal_json seq request_seq command message

abbrev pub response_json : ℕ → Response → Data
response_json seq r = outcome_json seq r.request_seq r.command r.outcome

abbrev pub reason_text : StopReason → Text
reason_text stop.Breakpoint = codes "breakpoint"
reason_text stop.Step = codes "step"
reason_text stop.Pause = codes "pause"

abbrev pub stopped_json : StopReason → Data
stopped_json reason = object_of (
    (codes "allThreadsStopped", boolean true) ∷
    (codes "reason", string (reason_text reason)) ∷
    (codes "threadId", whole_number 1) ∷ [])

abbrev pub continued_json : Data
continued_json = object_of (
    (codes "allThreadsContinued", boolean true) ∷
    (codes "threadId", whole_number 1) ∷ [])

-- the members of every event, without its body
abbrev pub bare_event : ℕ → Text → List (Text × Data)
bare_event seq name =
    (codes "event", string name) ∷
    (codes "seq", whole_number seq) ∷
    (codes "type", string (codes "event")) ∷ []

abbrev pub event_with_body : ℕ → Text → Data → Data
event_with_body seq name b = object_of ((codes "body", b) ∷ bare_event seq name)

-- `initialized` has no body
abbrev pub event_json : ℕ → Event → Data
event_json seq event.Initialized = object_of (bare_event seq (codes "initialized"))
event_json seq (event.Stopped reason) =
    event_with_body seq (codes "stopped") (stopped_json reason)
event_json seq event.Continued = event_with_body seq (codes "continued") continued_json
