-- What an editor is answered of expressions and variables (Debug Adapter Protocol, `evaluate`, `scopes`,
-- `variables` and `completions`), and the values that it sets (`setVariable` and `setExpression`).
use Rattle.std.specs.Prelude.{ℕ, ◌+◌, ◌==◌, List, [], ◌∷◌, length, take, drop, Bool, true, false, ◌&&◌}
use Rattle.std.specs.Prelude.{nat_le, Option, Some, None, Result, Ok, Err, codes, if◌then◌else◌}
use Rattle.std.specs.Str.{trim, bytes_eq}
use Rattle.base_text.specs.Bytes.{Text}
use Rattle.asm_syntax.specs.Ascii.{space}
use Rattle.lab_frames.specs.Live.{live}
use Rattle.lab_core.specs.declared.fault.EventFault.{EventFault}
use Rattle.lab_core.specs.declared.fault.EventFault.TheVariants.{NotStopped, BadFrame}
use Rattle.lab_core.specs.declared.run_state.RunState.{RunState}
use Rattle.lab_core.specs.declared.run_state.RunState.TheVariants.{NoRun, Running, Stopped}
use Rattle.lab_core.specs.Board.{Board}
use Rattle.dap_messages.specs.declared.message.EditorBody.{EditorBody}
use Rattle.dap_messages.specs.declared.message.EditorBody.TheVariants as body
use Rattle.dap_messages.specs.declared.message.EditorOutcome.{EditorOutcome}
use Rattle.dap_messages.specs.declared.message.EditorOutcome.TheVariants.{Success, Refused}
use Rattle.dap_messages.specs.declared.message.EditorVariable.{EditorVariable}
use Rattle.dap_messages.specs.declared.message.ShownValue.{ShownValue}
use Rattle.dap_messages.specs.declared.message.ValueFormat.{ValueFormat}
use Rattle.dap_requests.specs.declared.request.VariablesCommand.{VariablesCommand}
use Rattle.dap_requests.specs.declared.request.VariablesCommand.TheVariants as command
use Rattle.dap_values.specs.declared.fault.LookFault.{LookFault}
use Rattle.dap_values.specs.declared.assignment.SetValue.{SetValue}
use Rattle.dap_values.specs.Faults.{message_of}
use Rattle.dap_values.specs.Evaluation.{evaluation_of}
use Rattle.dap_values.specs.Assignments.{expression_set, variable_set}
use Rattle.dap_scopes.specs.declared.completion.Completions.{Completions}
use Rattle.dap_scopes.specs.declared.scopes.ScopeSizes.{ScopeSizes}
use Rattle.dap_scopes.specs.Completions.{completions_on}
use Rattle.dap_scopes.specs.Scopes.{variables_on, sizes_on}
use Rattle.dap_scopes.specs.Symbols.{symbols_with}
use Rattle.dap_run.specs.Refusals.{board_refusal}
use Rattle.dap_prompt.specs.declared.answer.VariablesAnswer.{VariablesAnswer}
use Rattle.dap_prompt.specs.declared.answer.VariablesAnswer.TheVariants.{Outcome, Change}

-- ---- expressions

-- a line of the prompt is done, which has no value
abbrev pub done_value : ShownValue
done_value = record { text = codes "ok"; memory = None }

abbrev pub or_message : {A : Type 0} → Result A LookFault → Result A Text
or_message (Ok value) = Ok value
or_message (Err fault) = Err (message_of fault)

abbrev pub value_outcome : Result ShownValue LookFault → EditorOutcome
value_outcome (Ok value) = Success (body.Evaluation value)
value_outcome (Err fault) = Refused (message_of fault)

-- the value of an expression
abbrev pub evaluation : Board → Text → ValueFormat → EditorOutcome
evaluation b expression format = value_outcome (evaluation_of b expression format)

-- ---- the prompt

abbrev pub symbols_word : Text
symbols_word = codes "symbols"

-- a word ends before this
abbrev pub ends_word : Text → Bool
ends_word [] = true
ends_word (c ∷ more) = c == space

abbrev pub part_behind : Text → Option Text
part_behind rest = if ends_word rest then Some (trim rest) else None

-- a line of the prompt may ask for the symbols in whose names a part stands, or for all
abbrev pub part_asked : Text → Option Text
part_asked line =
    if bytes_eq (take (length symbols_word) line) symbols_word
    then part_behind (drop (length symbols_word) line)
    else None

abbrev pub symbols_value : Board → Text → ShownValue
symbols_value b part = record { text = symbols_with b part; memory = None }

abbrev pub symbols_outcome : Board → Text → EditorOutcome
symbols_outcome b part = Success (body.Evaluation (symbols_value b part))

abbrev pub prompt_outcome : Option Text → Text → Board → ValueFormat → EditorOutcome
prompt_outcome (Some part) line b format = symbols_outcome b part
prompt_outcome None line b format = evaluation b line format

-- what a line of the prompt shows that is no command of the board
abbrev pub prompt_evaluation : Board → Text → ValueFormat → EditorOutcome
prompt_evaluation b line format = prompt_outcome (part_asked line) line b format

-- ---- scopes, variables and completions

abbrev pub refusal_of : EventFault → VariablesAnswer
refusal_of fault = Outcome (Refused (board_refusal fault))

abbrev pub success_of : EditorBody → VariablesAnswer
success_of body = Outcome (Success body)

abbrev pub sizes_body : ScopeSizes → EditorBody
sizes_body sizes = body.Scopes sizes.symbols sizes.words

-- a frame of a stopped run has scopes
abbrev pub scopes_if : Bool → Board → VariablesAnswer
scopes_if true b = success_of (sizes_body (sizes_on b))
scopes_if false b = refusal_of BadFrame

-- the frames of a run are its live ones, and the main program
abbrev pub has_frame : ℕ → Board → Bool
has_frame frame b = nat_le 1 frame && nat_le frame (length (live b.trace) + 1)

abbrev pub scopes_answer : RunState → ℕ → Board → VariablesAnswer
scopes_answer NoRun frame b = refusal_of NotStopped
scopes_answer Running frame b = refusal_of NotStopped
scopes_answer Stopped frame b = scopes_if (has_frame frame b) b

abbrev pub rows_answer : Result (List EditorVariable) EventFault → VariablesAnswer
rows_answer (Ok rows) = success_of (body.Variables rows)
rows_answer (Err fault) = refusal_of fault

abbrev pub completions_body : Completions → EditorBody
completions_body c = body.Completions c.items c.start c.length

abbrev pub completions_answer : Board → Text → ℕ → VariablesAnswer
completions_answer b text column = success_of (completions_body (completions_on b text column))

-- ---- answers to commands

-- what a command shows, or the value that it sets
abbrev pub variables_answer : VariablesCommand → Board → VariablesAnswer
variables_answer (command.Scopes frame) b = scopes_answer b.run frame b
variables_answer (command.Variables reference start count format) b =
    rows_answer (variables_on b reference start count format)
variables_answer (command.Completions text column) b = completions_answer b text column
variables_answer (command.SetVariable reference name value format) b =
    Change (or_message (variable_set b reference name value format))
variables_answer (command.SetExpression expression value format) b =
    Change (or_message (expression_set b expression value format))

abbrev pub change_in : VariablesAnswer → Option (Result SetValue Text)
change_in (Outcome outcome) = None
change_in (Change set) = Some set

-- the value that a command sets, or why it can't be set; nothing if the command sets none
abbrev pub value_set : VariablesCommand → Board → Option (Result SetValue Text)
value_set c b = change_in (variables_answer c b)
