-- No number in a message is a float.
use Rattle.std.proofs.Common.{◌≡◌, ℕ, ℤ, ◌==◌, if◌then◌else◌, Bool, true, false, Option, Some, None}
use Rattle.std.proofs.Common.{List, [], ◌∷◌, ◌++◌, codes, refl}
use Rattle.std.specs.Fmt.{signed_decimal}
use Rattle.serde_json.specs.Data.{Data, boolean, string}
use Rattle.serde_json.specs.Written.{has_float}
use Rattle.dap_answers.specs.Json.{object_of, whole_number, reference}
use Rattle.dap_answers.specs.declared.answer.Event.TheVariants as board
use Rattle.dap_answers.proofs.FloatLemmas.{no_float_in, body_has_no_float, event_has_no_float}
use Rattle.lab_shown.specs.declared.shown.CodeLine.{CodeLine}
use Rattle.lab_shown.specs.declared.shown.StackFrame.{StackFrame}
use Rattle.dap_messages.specs.declared.file_kind.ImageKind.{ImageKind}
use Rattle.dap_messages.specs.FileKinds.{kind_of}
use Rattle.dap_answers.specs.declared.answer.Body.{Body}
use Rattle.dap_answers.specs.declared.answer.Body.TheVariants as board_body
use Rattle.dap_messages.specs.declared.message.BreakpointNote.{BreakpointNote}
use Rattle.dap_messages.specs.declared.message.PlacedBreakpoint.{PlacedBreakpoint}
use Rattle.dap_messages.specs.declared.message.EditorVariable.{EditorVariable}
use Rattle.dap_messages.specs.declared.message.EditorBody.{EditorBody}
use Rattle.dap_messages.specs.declared.message.EditorBody.TheVariants as body
use Rattle.dap_messages.specs.declared.message.EditorOutcome.{EditorOutcome}
use Rattle.dap_messages.specs.declared.message.EditorOutcome.TheVariants.{Success, Refused}
use Rattle.dap_messages.specs.declared.message.BreakpointKind.{BreakpointKind}
use Rattle.dap_messages.specs.declared.message.BreakpointKind.TheVariants as kind
use Rattle.dap_messages.specs.declared.message.EditorStop.{EditorStop}
use Rattle.dap_messages.specs.declared.message.EditorStop.TheVariants as stop
use Rattle.dap_messages.specs.declared.message.OutputCategory.{OutputCategory}
use Rattle.dap_messages.specs.declared.message.SourcePlace.{SourcePlace}
use Rattle.dap_messages.specs.declared.message.EditorEvent.{EditorEvent}
use Rattle.dap_messages.specs.declared.message.EditorEvent.TheVariants as event
use Rattle.dap_messages.specs.declared.message.Message.{Message}
use Rattle.dap_messages.specs.declared.message.Message.TheVariants.{Response, Event}
use Rattle.dap_messages.specs.declared.message.Numbering.{Numbering}
use Rattle.dap_messages.specs.declared.message.InstructionLine.{InstructionLine}
use Rattle.dap_messages.specs.declared.message.EditorInstruction.{EditorInstruction}
use Rattle.dap_messages.specs.Numbering.{column_told}
use Rattle.dap_json.specs.Sources.{source_of, source_json, bare_frame, source_members, frame_json}
use Rattle.dap_json.specs.Instructions.{code_members, origin_members, symbol_members, instruction_json}
use Rattle.dap_json.specs.Json.{address_members, line_members, note_members, placed_json}
use Rattle.dap_json.specs.Json.{location_json, board_body_json}
use Rattle.dap_json.specs.Json.{data_members, data_json, memory_members, name_members, variable_json}
use Rattle.dap_json.specs.Json.{completion_json, editor_body_json, outcome_json, stopped_json}
use Rattle.dap_json.specs.Json.{breakpoint_stop_json, output_json, log_json}
use Rattle.dap_json.specs.Json.{editor_event_json, message_json}

placed_by : (numbering : Numbering) (id : ℕ) (address line : Option ℕ) (note : Option BreakpointNote)
    (is_verified : Bool) → has_float (object_of ((codes "id", whole_number id) ∷ address_members address ++
    (line_members numbering line ++ (note_members note ++ (codes "verified", boolean is_verified) ∷ []))))
    ≡ false
placed_by numbering id None None None is_verified = refl
placed_by numbering id None None (Some note) is_verified = refl
placed_by numbering id None (Some line) None is_verified = refl
placed_by numbering id None (Some line) (Some note) is_verified = refl
placed_by numbering id (Some address) None None is_verified = refl
placed_by numbering id (Some address) None (Some note) is_verified = refl
placed_by numbering id (Some address) (Some line) None is_verified = refl
placed_by numbering id (Some address) (Some line) (Some note) is_verified = refl

placed : (numbering : Numbering) (b : PlacedBreakpoint) → has_float (placed_json numbering b) ≡ false
placed numbering b = placed_by numbering b.id b.address b.line b.note b.is_verified

counted : (a : Data) (bytes : List ℕ) (none : Bool) (count : ℕ) → has_float a ≡ false
    → has_float (object_of ((codes "address", a) ∷ data_members bytes ++
    (if none then [] else (codes "unreadableBytes", whole_number count) ∷ []))) ≡ false
counted a [] true count is = rw is refl
counted a [] false count is = rw is refl
counted a (byte ∷ bytes) true count is = rw is refl
counted a (byte ∷ bytes) false count is = rw is refl

missing : (address : ℤ) (none : Bool) (count : ℕ)
    → has_float (object_of ((codes "address", string (signed_decimal address)) ∷
    (if none then [] else (codes "unreadableBytes", whole_number count) ∷ []))) ≡ false
missing address true count = refl
missing address false count = refl

informed : (id : Option (List ℕ)) (description : List ℕ) → has_float (data_json id description) ≡ false
informed None description = refl
informed (Some id) description = refl

variable_by : (name value : List ℕ) (memory : Option ℕ) (expression : Option (List ℕ))
    → has_float (object_of (name_members expression ++ (memory_members memory ++ (codes "name", string name) ∷
    (codes "value", string value) ∷ (codes "variablesReference", whole_number 0) ∷ []))) ≡ false
variable_by name value None None = refl
variable_by name value None (Some expression) = refl
variable_by name value (Some address) None = refl
variable_by name value (Some address) (Some expression) = refl

variable : (v : EditorVariable) → has_float (variable_json v) ≡ false
variable v = variable_by v.name v.value.text v.value.memory v.expression

evaluated : (text : List ℕ) (memory : Option ℕ) → has_float (object_of (memory_members memory ++
    (codes "result", string text) ∷ (codes "variablesReference", whole_number 0) ∷ [])) ≡ false
evaluated text None = refl
evaluated text (Some address) = refl

set_to : (text : List ℕ) (memory : Option ℕ)
    → has_float (object_of (memory_members memory ++ (codes "value", string text) ∷ [])) ≡ false
set_to text None = refl
set_to text (Some address) = refl

source_by : (kind : Option ImageKind) (path : List ℕ) → has_float (source_of kind path) ≡ false
source_by None path = refl
source_by (Some kind) path = refl

source : (path : List ℕ) → has_float (source_json path) ≡ false
source path = source_by (kind_of path) path

frame_by : (numbering : Numbering) (f : StackFrame) (path : Option (List ℕ))
    → has_float (object_of (bare_frame numbering f ++ source_members path)) ≡ false
frame_by numbering f None = refl
frame_by numbering f (Some path) = rw (source path) refl

frame : (numbering : Numbering) (f : StackFrame) → has_float (frame_json numbering f) ≡ false
unfolding frame_json
frame numbering f = frame_by numbering f f.source

instruction_by : (numbering : Numbering) (c : CodeLine) (origin : Option InstructionLine)
    (symbol : Option (List ℕ)) → has_float (object_of
    (code_members c ++ (origin_members numbering origin ++ symbol_members symbol))) ≡ false
instruction_by numbering c None None = refl
instruction_by numbering c None (Some symbol) = refl
instruction_by numbering c (Some origin) None = rw (source origin.path) refl
instruction_by numbering c (Some origin) (Some symbol) = rw (source origin.path) refl

instruction : (numbering : Numbering) (i : EditorInstruction)
    → has_float (instruction_json numbering i) ≡ false
instruction numbering i = instruction_by numbering i.code i.origin i.symbol

in_board_body : (numbering : Numbering) (b : Body) → has_float (board_body_json numbering b) ≡ false
in_board_body numbering (board_body.StackTrace frames total) =
    rw (no_float_in (frame_json numbering) (frame numbering) frames) refl
in_board_body numbering other = body_has_no_float other

in_body : (numbering : Numbering) (b : EditorBody) → has_float (editor_body_json numbering b) ≡ false
in_body numbering (body.Board b) = in_board_body numbering b
in_body numbering (body.Breakpoints bs) =
    rw (no_float_in (placed_json numbering) (placed numbering) bs) refl
in_body numbering (body.DataInfo info) = informed info.data_id info.description
in_body numbering (body.Locations lines) =
    rw (no_float_in (location_json numbering) (λ line. refl) lines) refl
in_body numbering (body.Variables vs) = rw (no_float_in variable_json variable vs) refl
in_body numbering (body.Evaluation v) = evaluated v.text v.memory
in_body numbering (body.Value v) = set_to v.text v.memory
in_body numbering (body.Completions cs start count) =
    rw (no_float_in (completion_json (column_told numbering start) count) (λ c. refl) cs) refl
in_body numbering (body.Memory address bytes count) =
    counted (string (reference address)) bytes (count == 0) count refl
in_body numbering (body.NoMemory address count) = missing address (count == 0) count
in_body numbering (body.Instructions is) =
    rw (no_float_in (instruction_json numbering) (instruction numbering) is) refl
in_body numbering (body.Sources paths) = rw (no_float_in source_json source paths) refl
in_body numbering (body.Targets None) = refl
in_body numbering (body.Targets (Some target)) = refl
in_body numbering _ = refl

in_outcome : (numbering : Numbering) (seq request_seq : ℕ) (command : List ℕ) (o : EditorOutcome)
    → has_float (outcome_json numbering seq request_seq command o) ≡ false
in_outcome numbering seq request_seq command (Success b) = rw (in_body numbering b) refl
in_outcome numbering seq request_seq command (Refused message) = refl

stopped : (seq : ℕ) (s : EditorStop) → has_float (stopped_json seq s) ≡ false
stopped seq stop.Entry = refl
stopped seq stop.Goto = refl
stopped seq stop.Halted = refl
stopped seq (stop.Exception u) = refl
stopped seq (stop.Board reason) = event_has_no_float seq (board.Stopped reason)

hit : (k : BreakpointKind) (ids : List ℕ)
    → has_float (breakpoint_stop_json (record { kind = k; ids = ids })) ≡ false
hit kind.Line ids = rw (no_float_in whole_number (λ id. refl) ids) refl
hit kind.Label ids = rw (no_float_in whole_number (λ id. refl) ids) refl
hit (kind.Data c) ids = rw (no_float_in whole_number (λ id. refl) ids) refl
hit kind.Instruction ids = rw (no_float_in whole_number (λ id. refl) ids) refl

in_output : (numbering : Numbering) (category : OutputCategory) (bytes : List ℕ) (place : Option SourcePlace)
    → has_float (output_json numbering category bytes place) ≡ false
in_output numbering category bytes None = refl
in_output numbering category bytes (Some place) = rw (source place.path) refl

in_log : (numbering : Numbering) (text : List ℕ) (place : SourcePlace)
    → has_float (log_json numbering text place) ≡ false
in_log numbering text place = rw (source place.path) refl

in_event : (numbering : Numbering) (seq : ℕ) (e : EditorEvent)
    → has_float (editor_event_json numbering seq e) ≡ false
in_event numbering seq (event.Stopped s) = stopped seq s
in_event numbering seq (event.StoppedAt s) = rw (hit s.kind s.ids) refl
in_event numbering seq (event.Output category bytes place) =
    rw (in_output numbering category bytes place) refl
in_event numbering seq (event.Log text place) = rw (in_log numbering text place) refl
in_event numbering seq (event.Breakpoint b) = rw (placed numbering b) refl
in_event numbering seq _ = refl

pub message_has_no_float : (numbering : Numbering) (seq : ℕ) (m : Message)
    → has_float (message_json numbering seq m) ≡ false
message_has_no_float numbering seq (Response r) = in_outcome numbering seq r.request_seq r.command r.outcome
message_has_no_float numbering seq (Event e) = in_event numbering seq e
