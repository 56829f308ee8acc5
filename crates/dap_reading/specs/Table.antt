-- The commands of editors (Debug Adapter Protocol, "Requests"): how each is spelled, and what it asks for by
-- its arguments.
use Rattle.std.specs.Prelude.{
  ℕ,
  Bool,
  true,
  false,
  not,
  if◌then◌else◌,
  List,
  [],
  ◌∷◌,
  Option,
  Some,
  None,
  is_some,
  unwrap_or,
  Result,
  Ok,
  Err,
  find,
  codes,
}
use Rattle.std.specs.Str.{bytes_eq}
use Rattle.base_text.specs.Bytes.{Text}
use Rattle.serde_json.specs.Data.{Data}
use Rattle.serde_json.specs.Find.{get, as_str, as_bool, as_null}
use Rattle.lab_shown.specs.declared.step.Granularity.TheVariants.{Line}
use Rattle.dap_talk.specs.Argument.{text_at, whole_between}
use Rattle.dap_requests.specs.declared.offset.SignedOffset.TheVariants.{Forward}
use Rattle.dap_reading.specs.Argument.{required_value, value_or, byte, word, some_word, any_number}
use Rattle.dap_reading.specs.Argument.{memory_reference, shift, offset, granularity, base64}
use Rattle.dap_messages.specs.declared.message.Numbering.{Numbering}
use Rattle.dap_messages.specs.declared.message.OperandStyle.TheVariants.{Numbers}
use Rattle.dap_messages.specs.declared.message.ValueFormat.{ValueFormat}
use Rattle.dap_messages.specs.declared.message.ValueFormat.TheVariants.{Hexadecimal}
use Rattle.dap_messages.specs.Numbering.{line_meant, column_meant}
use Rattle.dap_reading.specs.declared.name.EditorName.{EditorName}
use Rattle.dap_reading.specs.declared.name.EditorName.TheVariants as name
use Rattle.dap_requests.specs.declared.request.EvaluateContext.TheVariants.{Other}
use Rattle.dap_requests.specs.declared.request.Launch.{Launch}
use Rattle.dap_requests.specs.declared.request.RequestContent.{RequestContent}
use Rattle.dap_requests.specs.declared.request.RequestContent.TheVariants.{Load, Editor}
use Rattle.dap_requests.specs.declared.request.LoadCommand.TheVariants as load
use Rattle.dap_requests.specs.declared.request.SourceCommand.TheVariants as on_source
use Rattle.dap_requests.specs.declared.request.BreakpointsCommand.TheVariants as breakpoints
use Rattle.dap_requests.specs.declared.request.MemoryCommand.TheVariants as memory
use Rattle.dap_requests.specs.declared.request.EditorCommand.TheVariants as command
use Rattle.dap_requests.specs.declared.request.VariablesCommand.TheVariants as variables
use Rattle.dap_reading.specs.EditorArgument.{context, value_format, operand_style, filters}
use Rattle.dap_requests.specs.Filters.{no_filters}
use Rattle.dap_reading.specs.EditorArgument.{lines, functions, data_breakpoints, instructions}

abbrev pub spelling_of : EditorName → Text
spelling_of name.Initialize = codes "initialize"
spelling_of name.Launch = codes "launch"
spelling_of name.Restart = codes "restart"
spelling_of name.Terminate = codes "terminate"
spelling_of name.SetBreakpoints = codes "setBreakpoints"
spelling_of name.SetFunctionBreakpoints = codes "setFunctionBreakpoints"
spelling_of name.SetExceptionBreakpoints = codes "setExceptionBreakpoints"
spelling_of name.DataBreakpointInfo = codes "dataBreakpointInfo"
spelling_of name.SetDataBreakpoints = codes "setDataBreakpoints"
spelling_of name.SetInstructionBreakpoints = codes "setInstructionBreakpoints"
spelling_of name.BreakpointLocations = codes "breakpointLocations"
spelling_of name.ExceptionInfo = codes "exceptionInfo"
spelling_of name.Evaluate = codes "evaluate"
spelling_of name.ReadMemory = codes "readMemory"
spelling_of name.WriteMemory = codes "writeMemory"
spelling_of name.Disassemble = codes "disassemble"
spelling_of name.LoadedSources = codes "loadedSources"
spelling_of name.StepBack = codes "stepBack"
spelling_of name.ReverseContinue = codes "reverseContinue"
spelling_of name.GotoTargets = codes "gotoTargets"
spelling_of name.Goto = codes "goto"
spelling_of name.Scopes = codes "scopes"
spelling_of name.Variables = codes "variables"
spelling_of name.SetVariable = codes "setVariable"
spelling_of name.SetExpression = codes "setExpression"
spelling_of name.Completions = codes "completions"

-- ---- what each asks for

infixr 20 ◌then_with◌
-- with the value of an argument, or the name of the first bad one
abbrev pub ◌then_with◌ : {A B : Type 0} → Result A Text → (A → Result B Text) → Result B Text
Ok value then_with f = f value
Err name then_with f = Err name

-- lines and columns count from 1 if nothing else is wanted
abbrev pub initialize_asked : Data → Result RequestContent Text
initialize_asked d =
    value_or (codes "supportsInvalidatedEvent") as_bool false d then_with λ invalidated.
    value_or (codes "supportsMemoryEvent") as_bool false d then_with λ memory.
    value_or (codes "linesStartAt1") as_bool true d then_with λ lines_at_1.
    value_or (codes "columnsStartAt1") as_bool true d then_with λ columns_at_1.
    Ok (Editor (command.Initialize
    (record { invalidated = invalidated; memory = memory })
    (record { lines_start_at_1 = lines_at_1; columns_start_at_1 = columns_at_1 })))

-- the bytes of a program begin at 0 if nothing else is wanted
abbrev pub launch_of : Data → Result Launch Text
launch_of d =
    required_value (codes "program") as_str d then_with λ program.
    value_or (codes "stopOnEntry") as_bool false d then_with λ stops_on_entry.
    value_or (codes "stopAtEnd") as_bool false d then_with λ stops_at_end.
    value_or (codes "noDebug") as_bool false d then_with λ only_runs.
    value_or (codes "aliases") as_bool false d then_with λ has_aliases.
    value_or (codes "switches") byte 0 d then_with λ switches.
    value_or (codes "input") as_str [] d then_with λ input.
    value_or (codes "watchCommands") as_bool false d then_with λ has_watch_commands.
    value_or (codes "origin") some_word None d then_with λ origin.
    value_or (codes "start") some_word None d then_with λ start.
    Ok (record {
      program = program;
      canonical = program;
      stops_on_entry = stops_on_entry;
      stops_at_end = stops_at_end;
      is_debugged = not only_runs;
      has_aliases = has_aliases;
      switches = switches;
      input = input;
      has_watch_commands = has_watch_commands;
      origin = unwrap_or origin 0;
      start = start;
    })

abbrev pub launch_asked : Data → Result RequestContent Text
launch_asked d =
    launch_of d then_with λ launch.
    Ok (Load (load.Launch launch))

-- not absent, and not `null`
abbrev pub is_something : Option Data → Bool
is_something None = false
is_something (Some d) = not (is_some (as_null d))

abbrev pub has_arguments : Data → Bool
has_arguments d = is_something (get (codes "arguments") d)

abbrev pub launch_with : Option Data → Result (Option Launch) Text
launch_with None = Ok None
launch_with (Some d) =
    if has_arguments d then (launch_of d then_with λ launch. Ok (Some launch)) else Ok None

-- The arguments of a restart have those of a launch at their key `arguments`, and so are read as a launch's
-- request is.
abbrev pub changed_launch : Data → Result (Option Launch) Text
changed_launch d = launch_with (get (codes "arguments") d)

abbrev pub restart_asked : Data → Result RequestContent Text
restart_asked d =
    changed_launch d then_with λ launch.
    Ok (Load (load.Restart launch))

-- the path of a source
abbrev pub source : Data → Result Text Text
source = required_value (codes "source") (text_at (codes "path"))

-- no list of breakpoints is an empty one
abbrev pub set_breakpoints_asked : Numbering → Data → Result RequestContent Text
set_breakpoints_asked numbering d =
    source d then_with λ path.
    value_or (codes "breakpoints") (lines numbering) [] d then_with λ its_lines.
    Ok (Editor (command.OnSource path (on_source.SetBreakpoints its_lines)))

abbrev pub set_function_breakpoints_asked : Data → Result RequestContent Text
set_function_breakpoints_asked d =
    required_value (codes "breakpoints") functions d then_with λ wanted.
    Ok (Editor (command.Breakpoints (breakpoints.SetFunctionBreakpoints wanted)))

-- none if no filters are named
abbrev pub set_exception_breakpoints_asked : Data → Result RequestContent Text
set_exception_breakpoints_asked d =
    value_or (codes "filters") filters no_filters d then_with λ wanted.
    Ok (Editor (command.Breakpoints (breakpoints.SetExceptionBreakpoints wanted)))

abbrev pub set_data_breakpoints_asked : Data → Result RequestContent Text
set_data_breakpoints_asked d =
    required_value (codes "breakpoints") data_breakpoints d then_with λ wanted.
    Ok (Editor (command.Breakpoints (breakpoints.SetDataBreakpoints wanted)))

abbrev pub set_instruction_breakpoints_asked : Data → Result RequestContent Text
set_instruction_breakpoints_asked d =
    required_value (codes "breakpoints") instructions d then_with λ wanted.
    Ok (Editor (command.Breakpoints (breakpoints.SetInstructionBreakpoints wanted)))

-- an expression if no scope is named, and one byte if no number of them is
abbrev pub data_breakpoint_info_asked : Data → Result RequestContent Text
data_breakpoint_info_asked d =
    value_or (codes "variablesReference") any_number 0 d then_with λ scope.
    required_value (codes "name") as_str d then_with λ text.
    value_or (codes "bytes") any_number 1 d then_with λ count.
    value_or (codes "asAddress") as_bool false d then_with λ is_address.
    Ok (Editor (command.Breakpoints (breakpoints.DataBreakpointInfo (record {
      scope = scope;
      name = text;
      count = count;
      is_address = is_address;
    }))))

-- the last line is the first one if it is absent
abbrev pub breakpoint_locations_asked : Numbering → Data → Result RequestContent Text
breakpoint_locations_asked numbering d =
    source d then_with λ path.
    required_value (codes "line") any_number d then_with λ first.
    value_or (codes "endLine") any_number first d then_with λ last.
    Ok (Editor (command.OnSource path
    (on_source.BreakpointLocations (line_meant numbering first) (line_meant numbering last))))

-- in hexadecimal if nothing else is wanted
abbrev pub format : Data → Result ValueFormat Text
format = value_or (codes "format") value_format Hexadecimal

abbrev pub evaluate_asked : Data → Result RequestContent Text
evaluate_asked d =
    required_value (codes "expression") as_str d then_with λ expression.
    value_or (codes "context") context Other d then_with λ where_shown.
    format d then_with λ its_format.
    Ok (Editor (command.Evaluate expression where_shown its_format))

abbrev pub read_memory_asked : Data → Result RequestContent Text
read_memory_asked d =
    memory_reference d then_with λ from.
    offset d then_with λ bytes.
    required_value (codes "count") any_number d then_with λ count.
    Ok (Editor (command.Memory (memory.ReadMemory from bytes count)))

abbrev pub write_memory_asked : Data → Result RequestContent Text
write_memory_asked d =
    memory_reference d then_with λ to.
    offset d then_with λ bytes.
    required_value (codes "data") base64 d then_with λ content.
    Ok (Editor (command.Memory (memory.WriteMemory to bytes content)))

-- operands are numbers if nothing else is wanted
abbrev pub disassemble_asked : Data → Result RequestContent Text
disassemble_asked d =
    memory_reference d then_with λ from.
    offset d then_with λ bytes.
    value_or (codes "instructionOffset") (shift 65536) (Forward 0) d then_with λ instructions.
    required_value (codes "instructionCount") (whole_between 1 1024) d then_with λ count.
    value_or (codes "resolveSymbols") operand_style Numbers d then_with λ operands.
    Ok (Editor (command.Memory (memory.Disassemble from bytes instructions count operands)))

-- by a line if nothing else is wanted
abbrev pub step_back_asked : Data → Result RequestContent Text
step_back_asked d =
    value_or (codes "granularity") granularity Line d then_with λ by.
    Ok (Editor (command.StepBack by))

abbrev pub goto_asked : Data → Result RequestContent Text
goto_asked d =
    required_value (codes "targetId") word d then_with λ target.
    Ok (Editor (command.Goto target))

abbrev pub goto_targets_asked : Numbering → Data → Result RequestContent Text
goto_targets_asked numbering d =
    source d then_with λ path.
    required_value (codes "line") any_number d then_with λ line.
    Ok (Editor (command.OnSource path (on_source.GotoTargets (line_meant numbering line))))

abbrev pub scopes_asked : Data → Result RequestContent Text
scopes_asked d =
    required_value (codes "frameId") any_number d then_with λ frame.
    Ok (Editor (command.Variables (variables.Scopes frame)))

abbrev pub scope : Data → Result ℕ Text
scope = required_value (codes "variablesReference") any_number

abbrev pub new_value : Data → Result Text Text
new_value = required_value (codes "value") as_str

-- from the first on, and as many as are shown by default, if nothing else is wanted
abbrev pub variables_asked : Data → Result RequestContent Text
variables_asked d =
    scope d then_with λ its_scope.
    value_or (codes "start") any_number 0 d then_with λ start.
    value_or (codes "count") any_number 0 d then_with λ count.
    format d then_with λ its_format.
    Ok (Editor (command.Variables (variables.Variables its_scope start count its_format)))

abbrev pub set_variable_asked : Data → Result RequestContent Text
set_variable_asked d =
    scope d then_with λ its_scope.
    required_value (codes "name") as_str d then_with λ text.
    new_value d then_with λ value.
    format d then_with λ its_format.
    Ok (Editor (command.Variables (variables.SetVariable its_scope text value its_format)))

abbrev pub set_expression_asked : Data → Result RequestContent Text
set_expression_asked d =
    required_value (codes "expression") as_str d then_with λ expression.
    new_value d then_with λ value.
    format d then_with λ its_format.
    Ok (Editor (command.Variables (variables.SetExpression expression value its_format)))

abbrev pub completions_asked : Numbering → Data → Result RequestContent Text
completions_asked numbering d =
    required_value (codes "text") as_str d then_with λ text.
    required_value (codes "column") any_number d then_with λ column.
    Ok (Editor (command.Variables (variables.Completions text (column_meant numbering column))))

-- the command that a request makes with this name, or the name of its first bad argument, where lines and
-- columns count so
abbrev pub command_asked : Numbering → EditorName → Data → Result RequestContent Text
command_asked numbering name.Initialize d = initialize_asked d
command_asked numbering name.Launch d = launch_asked d
command_asked numbering name.Restart d = restart_asked d
command_asked numbering name.Terminate d = Ok (Editor command.Terminate)
command_asked numbering name.SetBreakpoints d = set_breakpoints_asked numbering d
command_asked numbering name.SetFunctionBreakpoints d = set_function_breakpoints_asked d
command_asked numbering name.SetExceptionBreakpoints d = set_exception_breakpoints_asked d
command_asked numbering name.DataBreakpointInfo d = data_breakpoint_info_asked d
command_asked numbering name.SetDataBreakpoints d = set_data_breakpoints_asked d
command_asked numbering name.SetInstructionBreakpoints d = set_instruction_breakpoints_asked d
command_asked numbering name.BreakpointLocations d = breakpoint_locations_asked numbering d
command_asked numbering name.ExceptionInfo d = Ok (Editor command.ExceptionInfo)
command_asked numbering name.Evaluate d = evaluate_asked d
command_asked numbering name.ReadMemory d = read_memory_asked d
command_asked numbering name.WriteMemory d = write_memory_asked d
command_asked numbering name.Disassemble d = disassemble_asked d
command_asked numbering name.LoadedSources d = Ok (Editor command.LoadedSources)
command_asked numbering name.StepBack d = step_back_asked d
command_asked numbering name.ReverseContinue d = Ok (Editor command.ReverseContinue)
command_asked numbering name.GotoTargets d = goto_targets_asked numbering d
command_asked numbering name.Goto d = goto_asked d
command_asked numbering name.Scopes d = scopes_asked d
command_asked numbering name.Variables d = variables_asked d
command_asked numbering name.SetVariable d = set_variable_asked d
command_asked numbering name.SetExpression d = set_expression_asked d
command_asked numbering name.Completions d = completions_asked numbering d

-- ---- the names

abbrev pub every_name : List EditorName
every_name =
    name.Initialize ∷ name.Launch ∷ name.Restart ∷ name.Terminate ∷ name.SetBreakpoints ∷
    name.SetFunctionBreakpoints ∷ name.SetExceptionBreakpoints ∷ name.DataBreakpointInfo ∷
    name.SetDataBreakpoints ∷ name.SetInstructionBreakpoints ∷ name.BreakpointLocations ∷
    name.ExceptionInfo ∷ name.Evaluate ∷ name.ReadMemory ∷ name.WriteMemory ∷ name.Disassemble ∷
    name.LoadedSources ∷ name.StepBack ∷ name.ReverseContinue ∷ name.GotoTargets ∷ name.Goto ∷
    name.Scopes ∷ name.Variables ∷ name.SetVariable ∷ name.SetExpression ∷ name.Completions ∷ []

-- the first of these names that is spelled like the text
abbrev pub first_named : List EditorName → Text → Option EditorName
first_named names t = find (λ name. bytes_eq (spelling_of name) t) names

-- the command with this name, if there is one
abbrev pub command_named : Text → Option EditorName
command_named t = first_named every_name t
