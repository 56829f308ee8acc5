-- The JSON of messages to an editor (Debug Adapter Protocol, "Base Protocol", "Events", "Requests",
-- "Types"), beside what dap_answers has. The members of an object stand in the order of their keys' bytes.
use Rattle.std.specs.Prelude.{
  ℕ,
  ℤ,
  ◌%◌,
  ◌==◌,
  if◌then◌else◌,
  true,
  false,
  Bool,
  List,
  [],
  ◌∷◌,
  ◌++◌,
  Option,
  Some,
  None,
  option_to_list,
  codes,
  decimal,
}
use Rattle.std.specs.Fmt.{signed_decimal}
use Rattle.base_text.specs.Bytes.{Bytes, Text}
use Rattle.base_text.specs.Hexadecimal.{upper_byte, upper_word}
use Rattle.base_text.specs.Latin.{latin_text}
use Rattle.base64.specs.Engines.{standard}
use Rattle.base64.specs.GeneralPurpose.{encode_of}
use Rattle.serde_json.specs.Data.{Data, array, boolean, null, string}
use Rattle.serde_json.specs.View.{items_of}
use Rattle.lab_shown.specs.declared.place.Place.{Place}
use Rattle.lab_shown.specs.declared.place.Place.TheVariants as place
use Rattle.lab_shown.specs.declared.place.PlaceChange.{PlaceChange}
use Rattle.lab_shown.specs.declared.scope.Scope.TheVariants as scope
use Rattle.lab_shown.specs.Scopes.{reference_of}
use Rattle.dap_answers.specs.declared.answer.Body.{Body}
use Rattle.dap_answers.specs.declared.answer.Body.TheVariants as board_body
use Rattle.dap_answers.specs.declared.answer.Event.TheVariants as board
use Rattle.dap_answers.specs.Json.{object_of, whole_number, list_of, one_list, reference, line_json}
use Rattle.dap_answers.specs.Json.{scope_of, body_json}
use Rattle.dap_answers.specs.Json.{bare_response, refusal_json, bare_event, event_with_body, event_json}
use Rattle.dap_messages.specs.declared.message.BreakpointNote.{BreakpointNote}
use Rattle.dap_messages.specs.declared.message.BreakpointNote.TheVariants as note
use Rattle.dap_messages.specs.declared.message.PlacedBreakpoint.{PlacedBreakpoint}
use Rattle.dap_messages.specs.declared.message.UndefinedOpcode.{UndefinedOpcode}
use Rattle.dap_messages.specs.declared.message.GotoTarget.{GotoTarget}
use Rattle.dap_messages.specs.declared.message.DataInfo.{DataInfo}
use Rattle.dap_messages.specs.declared.message.ShownValue.{ShownValue}
use Rattle.dap_messages.specs.declared.message.EditorVariable.{EditorVariable}
use Rattle.dap_messages.specs.declared.message.CompletionKind.{CompletionKind}
use Rattle.dap_messages.specs.declared.message.CompletionKind.TheVariants as completion
use Rattle.dap_messages.specs.declared.message.Completion.{Completion}
use Rattle.dap_messages.specs.declared.message.EditorBody.{EditorBody}
use Rattle.dap_messages.specs.declared.message.EditorBody.TheVariants as body
use Rattle.dap_messages.specs.declared.message.EditorOutcome.{EditorOutcome}
use Rattle.dap_messages.specs.declared.message.EditorOutcome.TheVariants.{Success, Refused}
use Rattle.dap_messages.specs.declared.message.EditorResponse.{EditorResponse}
use Rattle.dap_messages.specs.declared.message.BreakpointKind.{BreakpointKind}
use Rattle.dap_messages.specs.declared.message.BreakpointKind.TheVariants as kind
use Rattle.dap_messages.specs.declared.message.BreakpointStop.{BreakpointStop}
use Rattle.dap_messages.specs.declared.message.EditorStop.{EditorStop}
use Rattle.dap_messages.specs.declared.message.EditorStop.TheVariants as stop
use Rattle.dap_messages.specs.declared.message.OutputCategory.{OutputCategory}
use Rattle.dap_messages.specs.declared.message.OutputCategory.TheVariants as category
use Rattle.dap_messages.specs.declared.message.SourcePlace.{SourcePlace}
use Rattle.dap_messages.specs.declared.message.EditorEvent.{EditorEvent}
use Rattle.dap_messages.specs.declared.message.EditorEvent.TheVariants as event
use Rattle.dap_messages.specs.declared.message.Message.{Message}
use Rattle.dap_messages.specs.declared.message.Message.TheVariants.{Response, Event}
use Rattle.dap_messages.specs.declared.message.Numbering.{Numbering}
use Rattle.dap_messages.specs.Numbering.{line_told, column_told}
use Rattle.dap_json.specs.Sources.{source_json, stack_trace_json}
use Rattle.dap_json.specs.Instructions.{instruction_json}

-- ---- parts of bodies

-- the breakpoint's line is absent if it isn't known
abbrev pub line_members : Numbering → Option ℕ → List (Text × Data)
line_members numbering None = []
line_members numbering (Some line) = (codes "line", whole_number (line_told numbering line)) ∷ []

-- so is its address
abbrev pub address_members : Option ℕ → List (Text × Data)
address_members None = []
address_members (Some address) = (codes "instructionReference", string (reference address)) ∷ []

-- for people, to whom each editor shows the first line as 1
abbrev pub note_text : BreakpointNote → Text
note_text (note.Moved from) = codes "moved from line " ++ decimal from
note_text (note.NoCode line) = codes "no code at or below line " ++ decimal line
note_text note.NotLaunched = codes "nothing is launched yet"
note_text (note.OtherProgram path) = codes "the program is " ++ path
note_text (note.Wrong why) = why
note_text note.NotText = codes "conditions and log messages must be texts"
note_text note.NoLabel = codes "the program has no such label"
note_text note.NoAddress = codes "there is no such address"
note_text note.TooManyData = codes "more than 16 data breakpoints"

abbrev pub note_members : Option BreakpointNote → List (Text × Data)
note_members None = []
note_members (Some n) = (codes "message", string (note_text n)) ∷ []

abbrev pub placed_json : Numbering → PlacedBreakpoint → Data
placed_json numbering b = object_of (
    (codes "id", whole_number b.id) ∷ address_members b.address ++ (line_members numbering b.line ++
    (note_members b.note ++ (codes "verified", boolean b.is_verified) ∷ [])))

-- in base64 (RFC 4648, section 4: the standard alphabet, padded)
unfoldable pub base64_text : Bytes → Text
base64_text bytes = encode_of standard bytes

-- the data is absent if there are no bytes
abbrev pub data_members : Bytes → List (Text × Data)
data_members [] = []
data_members (byte ∷ bytes) = (codes "data", string (base64_text (byte ∷ bytes))) ∷ []

-- the count of unreadable bytes, if it isn't 0
abbrev pub unreadable_members : ℕ → List (Text × Data)
unreadable_members count =
    if count == 0 then [] else (codes "unreadableBytes", whole_number count) ∷ []

abbrev pub filter_json : Text → Text → Bool → Data
filter_json name label is_default = object_of (
    (codes "default", boolean is_default) ∷
    (codes "filter", string name) ∷
    (codes "label", string label) ∷ [])

-- an editor shows its address
abbrev pub target_json : Numbering → GotoTarget → Data
target_json numbering t = object_of (
    (codes "id", whole_number t.address) ∷
    (codes "instructionPointerReference", string (reference t.address)) ∷
    (codes "label", string (upper_word t.address)) ∷
    (codes "line", whole_number (line_told numbering t.line)) ∷ [])

-- a line that can have a breakpoint
abbrev pub location_json : Numbering → ℕ → Data
location_json numbering line = line_json (line_told numbering line)

-- ---- bodies

abbrev pub can : Text → Text × Data
can key = (key, boolean true)

abbrev pub undefined_filter : Data
undefined_filter = filter_json (codes "undefined") (codes "Undefined opcodes") true

abbrev pub halt_filter : Data
halt_filter = filter_json (codes "halt") (codes "HLT") false

abbrev pub filters_json : Data
filters_json = array (items_of (undefined_filter ∷ halt_filter ∷ []))

abbrev pub capabilities_json : Data
capabilities_json = object_of (
    (codes "exceptionBreakpointFilters", filters_json) ∷
    can (codes "supportsBreakpointLocationsRequest") ∷
    can (codes "supportsCompletionsRequest") ∷
    can (codes "supportsConditionalBreakpoints") ∷
    can (codes "supportsConfigurationDoneRequest") ∷
    can (codes "supportsDataBreakpointBytes") ∷
    can (codes "supportsDataBreakpoints") ∷
    can (codes "supportsDelayedStackTraceLoading") ∷
    can (codes "supportsDisassembleRequest") ∷
    can (codes "supportsEvaluateForHovers") ∷
    can (codes "supportsExceptionInfoRequest") ∷
    can (codes "supportsFunctionBreakpoints") ∷
    can (codes "supportsGotoTargetsRequest") ∷
    can (codes "supportsHitConditionalBreakpoints") ∷
    can (codes "supportsInstructionBreakpoints") ∷
    can (codes "supportsLoadedSourcesRequest") ∷
    can (codes "supportsLogPoints") ∷
    can (codes "supportsReadMemoryRequest") ∷
    can (codes "supportsRestartRequest") ∷
    can (codes "supportsSetExpression") ∷
    can (codes "supportsSetVariable") ∷
    can (codes "supportsStepBack") ∷
    can (codes "supportsSteppingGranularity") ∷
    can (codes "supportsTerminateRequest") ∷
    can (codes "supportsValueFormattingOptions") ∷
    can (codes "supportsWriteMemoryRequest") ∷ [])

-- what can be watched, with the identifier by which it is
abbrev pub watchable_json : Text → Text → Data
watchable_json id description = object_of (
    (codes "accessTypes", list_of string (codes "write" ∷ [])) ∷
    (codes "canPersist", boolean true) ∷
    (codes "dataId", string id) ∷
    (codes "description", string description) ∷ [])

abbrev pub unwatchable_json : Text → Data
unwatchable_json description = object_of (
    (codes "dataId", null) ∷
    (codes "description", string description) ∷ [])

abbrev pub data_json : Option Text → Text → Data
data_json None description = unwatchable_json description
data_json (Some id) description = watchable_json id description

abbrev pub data_info_json : DataInfo → Data
data_info_json info = data_json info.data_id info.description

-- how an exception is named, with the opcode and its address
abbrev pub exception_text : UndefinedOpcode → Text
exception_text u = codes "UndefinedOpcode: " ++ (upper_byte u.opcode ++ (codes " at " ++ upper_word u.pc))

abbrev pub exception_json : UndefinedOpcode → Data
exception_json u = object_of (
    (codes "breakMode", string (codes "unhandled")) ∷
    (codes "description", string (exception_text u)) ∷
    (codes "exceptionId", string (codes "UndefinedOpcode")) ∷ [])

-- where a value begins in memory, if it is there
abbrev pub memory_members : Option ℕ → List (Text × Data)
memory_members None = []
memory_members (Some address) = (codes "memoryReference", string (reference address)) ∷ []

-- by which an editor watches and changes a variable
abbrev pub name_members : Option Text → List (Text × Data)
name_members None = []
name_members (Some expression) = (codes "evaluateName", string expression) ∷ []

-- the members of a variable, without its expression
abbrev pub bare_variable : EditorVariable → List (Text × Data)
bare_variable v = memory_members v.value.memory ++
    (codes "name", string v.name) ∷
    (codes "value", string v.value.text) ∷
    (codes "variablesReference", whole_number 0) ∷ []

abbrev pub variable_json : EditorVariable → Data
variable_json v = object_of (name_members v.expression ++ bare_variable v)

abbrev pub evaluation_json : ShownValue → Data
evaluation_json v = object_of (memory_members v.memory ++
    (codes "result", string v.text) ∷
    (codes "variablesReference", whole_number 0) ∷ [])

-- of a variable or an expression that was set
abbrev pub value_json : ShownValue → Data
value_json v = object_of (memory_members v.memory ++ (codes "value", string v.text) ∷ [])

abbrev pub registers_json : Data
registers_json = object_of (
    (codes "expensive", boolean false) ∷
    (codes "name", string (codes "Registers")) ∷
    (codes "presentationHint", string (codes "registers")) ∷
    (codes "variablesReference", whole_number (reference_of scope.Registers)) ∷ [])

-- a scope of which an editor asks for some variables at a time, with their number
abbrev pub counted_scope : Text → ℕ → Bool → ℕ → Data
counted_scope name its_reference is_expensive count = object_of (
    (codes "expensive", boolean is_expensive) ∷
    (codes "indexedVariables", whole_number count) ∷
    (codes "name", string name) ∷
    (codes "variablesReference", whole_number its_reference) ∷ [])

abbrev pub every_scope : ℕ → ℕ → Data
every_scope symbols words = array (items_of (
    registers_json ∷
    scope_of scope.Flags ∷
    counted_scope (codes "Stack") 6 false words ∷
    scope_of scope.Devices ∷
    counted_scope (codes "Symbols") (reference_of scope.Symbols) false symbols ∷
    counted_scope (codes "Memory") (reference_of scope.Memory) true 65536 ∷ []))

abbrev pub scopes_json : ℕ → ℕ → Data
scopes_json symbols words = object_of ((codes "scopes", every_scope symbols words) ∷ [])

abbrev pub completion_type : CompletionKind → Text
completion_type completion.Part = codes "variable"
completion_type completion.Symbol = codes "reference"
completion_type completion.Word = codes "keyword"

-- it replaces so many characters from this one on
abbrev pub completion_json : ℕ → ℕ → Completion → Data
completion_json start count c = object_of (
    (codes "label", string c.label) ∷
    (codes "length", whole_number count) ∷
    (codes "start", whole_number start) ∷
    (codes "type", string (completion_type c.kind)) ∷ [])

abbrev pub memory_json : ℕ → Bytes → ℕ → Data
memory_json address bytes unreadable = object_of (
    (codes "address", string (reference address)) ∷
    data_members bytes ++ unreadable_members unreadable)

-- of an address that doesn't exist, in decimal digits
abbrev pub no_memory_json : ℤ → ℕ → Data
no_memory_json address count = object_of (
    (codes "address", string (signed_decimal address)) ∷ unreadable_members count)

abbrev pub written_json : ℕ → Data
written_json count = object_of ((codes "bytesWritten", whole_number count) ∷ [])

-- of a command that the kernel has too
abbrev pub board_body_json : Numbering → Body → Data
board_body_json numbering (board_body.StackTrace frames total) = stack_trace_json numbering frames total
board_body_json numbering other = body_json other

abbrev pub editor_body_json : Numbering → EditorBody → Data
editor_body_json numbering (body.Board b) = board_body_json numbering b
editor_body_json numbering (body.Capabilities asked) = capabilities_json
editor_body_json numbering (body.Breakpoints bs) = one_list (codes "breakpoints") (placed_json numbering) bs
editor_body_json numbering (body.DataInfo info) = data_info_json info
editor_body_json numbering (body.Locations lines) =
    one_list (codes "breakpoints") (location_json numbering) lines
editor_body_json numbering (body.Exception u) = exception_json u
editor_body_json numbering (body.Scopes symbols words) = scopes_json symbols words
editor_body_json numbering (body.Variables vs) = one_list (codes "variables") variable_json vs
editor_body_json numbering (body.Evaluation v) = evaluation_json v
editor_body_json numbering (body.Value v) = value_json v
editor_body_json numbering (body.Completions cs start count) =
    one_list (codes "targets") (completion_json (column_told numbering start) count) cs
editor_body_json numbering (body.Memory address bytes unreadable) = memory_json address bytes unreadable
editor_body_json numbering (body.NoMemory address count) = no_memory_json address count
editor_body_json numbering (body.Instructions is) =
    one_list (codes "instructions") (instruction_json numbering) is
editor_body_json numbering (body.Written count) = written_json count
editor_body_json numbering (body.Sources paths) = one_list (codes "sources") source_json paths
editor_body_json numbering (body.Targets target) =
    one_list (codes "targets") (target_json numbering) (option_to_list target)

-- ---- responses

abbrev pub success_json : ℕ → ℕ → Text → Data → Data
success_json seq request_seq command b = object_of (
    (codes "body", b) ∷
    (codes "command", string command) ∷ bare_response seq request_seq true)

-- a success has a body and no message, a refusal a message and no body
abbrev pub outcome_json : Numbering → ℕ → ℕ → Text → EditorOutcome → Data
outcome_json numbering seq request_seq command (Success b) =
    success_json seq request_seq command (editor_body_json numbering b)
outcome_json numbering seq request_seq command (Refused message) =
    refusal_json seq request_seq command message

abbrev pub response_json : Numbering → ℕ → EditorResponse → Data
response_json numbering seq r = outcome_json numbering seq r.request_seq r.command r.outcome

-- ---- events

-- a stop of which there is no more to say than why
abbrev pub bare_stop_json : Text → Data
bare_stop_json reason = object_of (
    (codes "allThreadsStopped", boolean true) ∷
    (codes "reason", string reason) ∷
    (codes "threadId", whole_number 1) ∷ [])

abbrev pub halted_json : Data
halted_json = object_of (
    (codes "allThreadsStopped", boolean true) ∷
    (codes "description", string (codes "halted")) ∷
    (codes "reason", string (codes "step")) ∷
    (codes "threadId", whole_number 1) ∷ [])

abbrev pub stopped_at_json : UndefinedOpcode → Data
stopped_at_json u = object_of (
    (codes "allThreadsStopped", boolean true) ∷
    (codes "reason", string (codes "exception")) ∷
    (codes "text", string (exception_text u)) ∷
    (codes "threadId", whole_number 1) ∷ [])

-- the name under which a place is shown
abbrev pub place_name : Place → Text
place_name place.A = codes "A"
place_name place.B = codes "B"
place_name place.C = codes "C"
place_name place.D = codes "D"
place_name place.E = codes "E"
place_name place.H = codes "H"
place_name place.L = codes "L"
place_name place.Sp = codes "SP"
place_name place.Pc = codes "PC"
place_name (place.Memory address) = upper_word address

-- SP and PC have four digits, and the others two
abbrev pub place_value_text : Place → ℕ → Text
place_value_text place.Sp value = upper_word value ++ codes "H"
place_value_text place.Pc value = upper_word value ++ codes "H"
place_value_text other value = upper_byte (value % 256) ++ codes "H"

-- the value after an instruction, the value before it, and the instruction's address
abbrev pub change_text : PlaceChange → Text
change_text c = place_name c.place ++ (codes ": " ++ (place_value_text c.place c.after ++
    (codes ", was " ++ (place_value_text c.place c.before ++ (codes ", by " ++ upper_word c.by)))))

abbrev pub kind_reason : BreakpointKind → Text
kind_reason kind.Line = codes "breakpoint"
kind_reason kind.Label = codes "function breakpoint"
kind_reason (kind.Data c) = codes "data breakpoint"
kind_reason kind.Instruction = codes "instruction breakpoint"

-- a change is described
abbrev pub kind_members : BreakpointKind → List (Text × Data)
kind_members (kind.Data c) = (codes "description", string (change_text c)) ∷ []
kind_members other = []

abbrev pub breakpoint_stop_json : BreakpointStop → Data
breakpoint_stop_json s = object_of (
    (codes "allThreadsStopped", boolean true) ∷ kind_members s.kind ++ (
    (codes "hitBreakpointIds", list_of whole_number s.ids) ∷
    (codes "reason", string (kind_reason s.kind)) ∷
    (codes "threadId", whole_number 1) ∷ []))

abbrev pub stopped_json : ℕ → EditorStop → Data
stopped_json seq stop.Entry = event_with_body seq (codes "stopped") (bare_stop_json (codes "entry"))
stopped_json seq stop.Goto = event_with_body seq (codes "stopped") (bare_stop_json (codes "goto"))
stopped_json seq stop.Halted = event_with_body seq (codes "stopped") halted_json
stopped_json seq (stop.Exception u) = event_with_body seq (codes "stopped") (stopped_at_json u)
stopped_json seq (stop.Board reason) = event_json seq (board.Stopped reason)

abbrev pub category_text : OutputCategory → Text
category_text category.Console = codes "console"
category_text category.Stdout = codes "stdout"
category_text category.Stderr = codes "stderr"

abbrev pub bare_output : OutputCategory → Bytes → List (Text × Data)
bare_output category bytes =
    (codes "category", string (category_text category)) ∷
    (codes "output", string (latin_text bytes)) ∷ []

abbrev pub placed_output : Numbering → OutputCategory → Bytes → SourcePlace → Data
placed_output numbering category bytes place = object_of (
    (codes "category", string (category_text category)) ∷
    (codes "column", whole_number (column_told numbering place.column)) ∷
    (codes "line", whole_number (line_told numbering place.line)) ∷
    (codes "output", string (latin_text bytes)) ∷
    (codes "source", source_json place.path) ∷ [])

-- output that belongs to no place has none
abbrev pub output_json : Numbering → OutputCategory → Bytes → Option SourcePlace → Data
output_json numbering category bytes None = object_of (bare_output category bytes)
output_json numbering category bytes (Some place) = placed_output numbering category bytes place

-- it goes to the debugger's console
abbrev pub log_json : Numbering → Text → SourcePlace → Data
log_json numbering text place = object_of (
    (codes "category", string (category_text category.Console)) ∷
    (codes "column", whole_number (column_told numbering place.column)) ∷
    (codes "line", whole_number (line_told numbering place.line)) ∷
    (codes "output", string (text ++ codes "\n")) ∷
    (codes "source", source_json place.path) ∷ [])

abbrev pub changed_json : Numbering → PlacedBreakpoint → Data
changed_json numbering b = object_of (
    (codes "breakpoint", placed_json numbering b) ∷
    (codes "reason", string (codes "changed")) ∷ [])

abbrev pub invalidated_json : Data
invalidated_json = object_of (
    (codes "areas", list_of string (codes "stacks" ∷ codes "variables" ∷ [])) ∷ [])

-- all of it
abbrev pub memory_changed_json : Data
memory_changed_json = object_of (
    (codes "count", whole_number 65536) ∷
    (codes "memoryReference", string (reference 0)) ∷
    (codes "offset", whole_number 0) ∷ [])

abbrev pub exited_json : ℕ → Data
exited_json code = object_of ((codes "exitCode", whole_number code) ∷ [])

abbrev pub editor_event_json : Numbering → ℕ → EditorEvent → Data
editor_event_json numbering seq event.Initialized = event_json seq board.Initialized
editor_event_json numbering seq (event.Stopped reason) = stopped_json seq reason
editor_event_json numbering seq (event.StoppedAt s) =
    event_with_body seq (codes "stopped") (breakpoint_stop_json s)
editor_event_json numbering seq event.Continued = event_json seq board.Continued
editor_event_json numbering seq (event.Output category bytes place) =
    event_with_body seq (codes "output") (output_json numbering category bytes place)
editor_event_json numbering seq (event.Log text place) =
    event_with_body seq (codes "output") (log_json numbering text place)
editor_event_json numbering seq (event.Breakpoint b) =
    event_with_body seq (codes "breakpoint") (changed_json numbering b)
editor_event_json numbering seq event.Invalidated =
    event_with_body seq (codes "invalidated") invalidated_json
editor_event_json numbering seq event.Memory =
    event_with_body seq (codes "memory") memory_changed_json
editor_event_json numbering seq (event.Exited code) =
    event_with_body seq (codes "exited") (exited_json code)
editor_event_json numbering seq event.Terminated = object_of (bare_event seq (codes "terminated"))

-- ---- messages

-- with this number, to an editor that counts lines and columns so
abbrev pub message_json : Numbering → ℕ → Message → Data
message_json numbering seq (Response r) = response_json numbering seq r
message_json numbering seq (Event e) = editor_event_json numbering seq e
