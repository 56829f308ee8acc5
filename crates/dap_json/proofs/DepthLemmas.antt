-- How deep messages nest.
use Rattle.std.proofs.Common.{◌≤◌, ℕ, ℤ, ◌==◌, if◌then◌else◌, Bool, true, false, Option, Some, None}
use Rattle.std.proofs.Common.{List, [], ◌∷◌, ◌++◌, map, codes, refl, arith}
use Rattle.std.specs.Fmt.{signed_decimal}
use Rattle.serde_json.specs.Data.{boolean, string, depth, items_depth}
use Rattle.serde_json.specs.View.{items_of}
use Rattle.dap_answers.specs.Json.{object_of, whole_number, reference}
use Rattle.dap_answers.specs.declared.answer.Event.TheVariants as board
use Rattle.dap_answers.proofs.DepthLemmas.{fits, items_within, body_is_shallow, event_is_shallow}
use Rattle.lab_shown.specs.declared.shown.CodeLine.{CodeLine}
use Rattle.lab_shown.specs.declared.shown.StackFrame.{StackFrame}
use Rattle.dap_messages.specs.declared.file_kind.ImageKind.{ImageKind}
use Rattle.dap_messages.specs.FileKinds.{kind_of}
use Rattle.dap_answers.specs.declared.answer.Body.{Body}
use Rattle.dap_answers.specs.declared.answer.Body.TheVariants as board_body
use Rattle.dap_messages.specs.declared.message.BreakpointNote.{BreakpointNote}
use Rattle.dap_messages.specs.declared.message.PlacedBreakpoint.{PlacedBreakpoint}
use Rattle.dap_messages.specs.declared.message.EditorVariable.{EditorVariable}
use Rattle.dap_messages.specs.declared.message.EditorBody.{EditorBody}
use Rattle.dap_messages.specs.declared.message.EditorBody.TheVariants as body
use Rattle.dap_messages.specs.declared.message.EditorOutcome.{EditorOutcome}
use Rattle.dap_messages.specs.declared.message.EditorOutcome.TheVariants.{Success, Refused}
use Rattle.dap_messages.specs.declared.message.BreakpointKind.{BreakpointKind}
use Rattle.dap_messages.specs.declared.message.BreakpointKind.TheVariants as kind
use Rattle.dap_messages.specs.declared.message.EditorStop.{EditorStop}
use Rattle.dap_messages.specs.declared.message.EditorStop.TheVariants as stop
use Rattle.dap_messages.specs.declared.message.OutputCategory.{OutputCategory}
use Rattle.dap_messages.specs.declared.message.SourcePlace.{SourcePlace}
use Rattle.dap_messages.specs.declared.message.EditorEvent.{EditorEvent}
use Rattle.dap_messages.specs.declared.message.EditorEvent.TheVariants as event
use Rattle.dap_messages.specs.declared.message.Message.{Message}
use Rattle.dap_messages.specs.declared.message.Message.TheVariants.{Response, Event}
use Rattle.dap_messages.specs.declared.message.Numbering.{Numbering}
use Rattle.dap_messages.specs.declared.message.InstructionLine.{InstructionLine}
use Rattle.dap_messages.specs.declared.message.EditorInstruction.{EditorInstruction}
use Rattle.dap_messages.specs.Numbering.{column_told}
use Rattle.dap_json.specs.Sources.{source_of, source_json, bare_frame, source_members, frame_json}
use Rattle.dap_json.specs.Instructions.{code_members, origin_members, symbol_members, instruction_json}
use Rattle.dap_json.specs.Json.{address_members, line_members, note_members, placed_json}
use Rattle.dap_json.specs.Json.{location_json, board_body_json}
use Rattle.dap_json.specs.Json.{data_members, data_json, memory_members, name_members, variable_json}
use Rattle.dap_json.specs.Json.{completion_json, editor_body_json, outcome_json, stopped_json}
use Rattle.dap_json.specs.Json.{breakpoint_stop_json, output_json, log_json}
use Rattle.dap_json.specs.Json.{editor_event_json, message_json}

placed_by : (numbering : Numbering) (id : ℕ) (address line : Option ℕ) (note : Option BreakpointNote)
    (is_verified : Bool) → depth (object_of ((codes "id", whole_number id) ∷ address_members address ++
    (line_members numbering line ++ (note_members note ++ (codes "verified", boolean is_verified) ∷ [])))) ≤ 1
placed_by numbering id None None None is_verified = fits _ 1 refl
placed_by numbering id None None (Some note) is_verified = fits _ 1 refl
placed_by numbering id None (Some line) None is_verified = fits _ 1 refl
placed_by numbering id None (Some line) (Some note) is_verified = fits _ 1 refl
placed_by numbering id (Some address) None None is_verified = fits _ 1 refl
placed_by numbering id (Some address) None (Some note) is_verified = fits _ 1 refl
placed_by numbering id (Some address) (Some line) None is_verified = fits _ 1 refl
placed_by numbering id (Some address) (Some line) (Some note) is_verified = fits _ 1 refl

placed : (numbering : Numbering) (b : PlacedBreakpoint) → depth (placed_json numbering b) ≤ 1
placed numbering b = placed_by numbering b.id b.address b.line b.note b.is_verified

counted : (address : ℕ) (bytes : List ℕ) (none : Bool) (count : ℕ)
    → depth (object_of ((codes "address", string (reference address)) ∷ data_members bytes ++
    (if none then [] else (codes "unreadableBytes", whole_number count) ∷ []))) ≤ 5
counted address [] true count = fits _ 5 refl
counted address [] false count = fits _ 5 refl
counted address (byte ∷ bytes) true count = fits _ 5 refl
counted address (byte ∷ bytes) false count = fits _ 5 refl

missing : (address : ℤ) (none : Bool) (count : ℕ)
    → depth (object_of ((codes "address", string (signed_decimal address)) ∷
    (if none then [] else (codes "unreadableBytes", whole_number count) ∷ []))) ≤ 5
missing address true count = fits _ 5 refl
missing address false count = fits _ 5 refl

informed : (id : Option (List ℕ)) (description : List ℕ) → depth (data_json id description) ≤ 5
informed None description = fits _ 5 refl
informed (Some id) description = fits _ 5 refl

variable_by : (name value : List ℕ) (memory : Option ℕ) (expression : Option (List ℕ))
    → depth (object_of (name_members expression ++ (memory_members memory ++ (codes "name", string name) ∷
    (codes "value", string value) ∷ (codes "variablesReference", whole_number 0) ∷ []))) ≤ 1
variable_by name value None None = fits _ 1 refl
variable_by name value None (Some expression) = fits _ 1 refl
variable_by name value (Some address) None = fits _ 1 refl
variable_by name value (Some address) (Some expression) = fits _ 1 refl

variable : (v : EditorVariable) → depth (variable_json v) ≤ 1
variable v = variable_by v.name v.value.text v.value.memory v.expression

evaluated : (text : List ℕ) (memory : Option ℕ) → depth (object_of (memory_members memory ++
    (codes "result", string text) ∷ (codes "variablesReference", whole_number 0) ∷ [])) ≤ 5
evaluated text None = fits _ 5 refl
evaluated text (Some address) = fits _ 5 refl

set_to : (text : List ℕ) (memory : Option ℕ)
    → depth (object_of (memory_members memory ++ (codes "value", string text) ∷ [])) ≤ 5
set_to text None = fits _ 5 refl
set_to text (Some address) = fits _ 5 refl

source_by : (kind : Option ImageKind) (path : List ℕ) → depth (source_of kind path) ≤ 1
source_by None path = fits _ 1 refl
source_by (Some kind) path = fits _ 1 refl

source : (path : List ℕ) → depth (source_json path) ≤ 1
source path = source_by (kind_of path) path

frame_by : (numbering : Numbering) (f : StackFrame) (path : Option (List ℕ))
    → depth (object_of (bare_frame numbering f ++ source_members path)) ≤ 2
frame_by numbering f None = fits _ 2 refl
frame_by numbering f (Some path) = let h = source path in omega (arith, h)

frame : (numbering : Numbering) (f : StackFrame) → depth (frame_json numbering f) ≤ 2
unfolding frame_json
frame numbering f = frame_by numbering f f.source

instruction_by : (numbering : Numbering) (c : CodeLine) (origin : Option InstructionLine)
    (symbol : Option (List ℕ)) → depth (object_of
    (code_members c ++ (origin_members numbering origin ++ symbol_members symbol))) ≤ 2
instruction_by numbering c None None = fits _ 2 refl
instruction_by numbering c None (Some symbol) = fits _ 2 refl
instruction_by numbering c (Some origin) None = let h = source origin.path in omega (arith, h)
instruction_by numbering c (Some origin) (Some symbol) = let h = source origin.path in omega (arith, h)

instruction : (numbering : Numbering) (i : EditorInstruction) → depth (instruction_json numbering i) ≤ 2
instruction numbering i = instruction_by numbering i.code i.origin i.symbol

in_board_body : (numbering : Numbering) (b : Body) → depth (board_body_json numbering b) ≤ 5
in_board_body numbering (board_body.StackTrace frames total) =
    let h = items_within 2 (frame_json numbering) (frame numbering) frames in omega (arith, h)
in_board_body numbering other = body_is_shallow other

in_body : (numbering : Numbering) (b : EditorBody) → depth (editor_body_json numbering b) ≤ 5
in_body numbering (body.Board b) = in_board_body numbering b
in_body numbering (body.Breakpoints bs) =
    let h = items_within 1 (placed_json numbering) (placed numbering) bs in omega (arith, h)
in_body numbering (body.DataInfo info) = informed info.data_id info.description
in_body numbering (body.Locations lines) =
    let h = items_within 1 (location_json numbering) (λ line. fits _ 1 refl) lines in omega (arith, h)
in_body numbering (body.Variables vs) =
    let h = items_within 1 variable_json variable vs in omega (arith, h)
in_body numbering (body.Evaluation v) = evaluated v.text v.memory
in_body numbering (body.Value v) = set_to v.text v.memory
in_body numbering (body.Completions cs start count) =
    let h = items_within 1 (completion_json (column_told numbering start) count) (λ c. fits _ 1 refl) cs in
    omega (arith, h)
in_body numbering (body.Memory address bytes count) = counted address bytes (count == 0) count
in_body numbering (body.NoMemory address count) = missing address (count == 0) count
in_body numbering (body.Instructions is) =
    let h = items_within 2 (instruction_json numbering) (instruction numbering) is in omega (arith, h)
in_body numbering (body.Sources paths) =
    let h = items_within 1 source_json source paths in omega (arith, h)
in_body numbering (body.Targets None) = fits _ 5 refl
in_body numbering (body.Targets (Some target)) = fits _ 5 refl
in_body numbering _ = fits _ 5 refl

in_outcome : (numbering : Numbering) (seq request_seq : ℕ) (command : List ℕ) (o : EditorOutcome)
    → depth (outcome_json numbering seq request_seq command o) ≤ 6
in_outcome numbering seq request_seq command (Success b) =
    let h = in_body numbering b in omega (arith, h)
in_outcome numbering seq request_seq command (Refused message) = fits _ 6 refl

stopped : (seq : ℕ) (s : EditorStop) → depth (stopped_json seq s) ≤ 6
stopped seq stop.Entry = fits _ 6 refl
stopped seq stop.Goto = fits _ 6 refl
stopped seq stop.Halted = fits _ 6 refl
stopped seq (stop.Exception u) = fits _ 6 refl
stopped seq (stop.Board reason) = event_is_shallow seq (board.Stopped reason)

numbered : (ids : List ℕ) → items_depth (items_of (map whole_number ids)) ≤ 0
numbered ids = items_within 0 whole_number (λ id. fits _ 0 refl) ids

hit : (k : BreakpointKind) (ids : List ℕ) → depth (breakpoint_stop_json (record { kind = k; ids = ids })) ≤ 5
hit kind.Line ids = let h = numbered ids in omega (arith, h)
hit kind.Label ids = let h = numbered ids in omega (arith, h)
hit (kind.Data c) ids = let h = numbered ids in omega (arith, h)
hit kind.Instruction ids = let h = numbered ids in omega (arith, h)

in_output : (numbering : Numbering) (category : OutputCategory) (bytes : List ℕ) (place : Option SourcePlace)
    → depth (output_json numbering category bytes place) ≤ 2
in_output numbering category bytes None = fits _ 2 refl
in_output numbering category bytes (Some place) = let h = source place.path in omega (arith, h)

in_log : (numbering : Numbering) (text : List ℕ) (place : SourcePlace)
    → depth (log_json numbering text place) ≤ 2
in_log numbering text place = let h = source place.path in omega (arith, h)

in_event : (numbering : Numbering) (seq : ℕ) (e : EditorEvent) → depth (editor_event_json numbering seq e) ≤ 6
in_event numbering seq (event.Stopped s) = stopped seq s
in_event numbering seq (event.StoppedAt s) = let h = hit s.kind s.ids in omega (arith, h)
in_event numbering seq (event.Output category bytes place) =
    let h = in_output numbering category bytes place in omega (arith, h)
in_event numbering seq (event.Log text place) = let h = in_log numbering text place in omega (arith, h)
in_event numbering seq (event.Breakpoint b) = let h = placed numbering b in omega (arith, h)
in_event numbering seq _ = fits _ 6 refl

pub message_is_shallow : (numbering : Numbering) (seq : ℕ) (m : Message)
    → depth (message_json numbering seq m) ≤ 6
message_is_shallow numbering seq (Response r) = in_outcome numbering seq r.request_seq r.command r.outcome
message_is_shallow numbering seq (Event e) = in_event numbering seq e
