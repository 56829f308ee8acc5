-- What each request is answered by, and the session after it (Debug Adapter Protocol, "Requests").
use Rattle.std.specs.Prelude.{ℕ, List, [], true, not, ◌||◌, Option, Some}
use Rattle.std.specs.Prelude.{None, Ok, Err, option_to_list, option_map, codes, if◌then◌else◌}
use Rattle.base_text.specs.Bytes.{Text}
use Rattle.lab_core.specs.declared.answer.End.{End}
use Rattle.lab_core.specs.declared.event.Event.TheVariants.{Interrupt}
use Rattle.dap_answers.specs.declared.answer.StopReason.TheVariants.{Pause as ByPause}
use Rattle.dap_board.specs.Commands.{Performed}
use Rattle.dap_messages.specs.declared.message.UndefinedOpcode.{UndefinedOpcode}
use Rattle.dap_messages.specs.declared.message.EditorBody.TheVariants as body
use Rattle.dap_messages.specs.declared.message.EditorStop.TheVariants.{Board as AtBoard}
use Rattle.dap_messages.specs.declared.message.Numbering.{Numbering}
use Rattle.dap_messages.specs.declared.message.OperandStyle.{OperandStyle}
use Rattle.dap_requests.specs.declared.request.RequestContent.{RequestContent}
use Rattle.dap_requests.specs.declared.request.RequestContent.TheVariants as asked
use Rattle.dap_requests.specs.declared.request.EditorCommand.{EditorCommand}
use Rattle.dap_requests.specs.declared.request.EditorCommand.TheVariants as editor
use Rattle.dap_requests.specs.declared.request.LoadCommand.TheVariants as load
use Rattle.dap_requests.specs.declared.request.BoardCommand.{BoardCommand}
use Rattle.dap_requests.specs.declared.request.BoardCommand.TheVariants as board
use Rattle.dap_requests.specs.declared.request.SourceCommand.{SourceCommand}
use Rattle.dap_requests.specs.declared.request.SourceCommand.TheVariants as source
use Rattle.dap_requests.specs.declared.request.BreakpointsCommand.{BreakpointsCommand}
use Rattle.dap_requests.specs.declared.request.BreakpointsCommand.TheVariants as breakpoints
use Rattle.dap_requests.specs.declared.request.MemoryCommand.{MemoryCommand}
use Rattle.dap_requests.specs.declared.request.MemoryCommand.TheVariants as memory
use Rattle.dap_requests.specs.Traits.{opens}
use Rattle.dap_requests.specs.declared.offset.SignedOffset.{SignedOffset}
use Rattle.dap_requests.specs.declared.request.SupportedEvents.{SupportedEvents}
use Rattle.dap_run.specs.declared.messages.FollowUp.{FollowUp}
use Rattle.dap_run.specs.declared.messages.FollowUp.TheVariants as follow
use Rattle.dap_run.specs.Boards.{after, board_result}
use Rattle.dap_run.specs.Bounds.{is_bounded}
use Rattle.dap_run.specs.Ends.{exit_code}
use Rattle.dap_values.specs.Distances.{address_at, far_address, wrapped_at}
use Rattle.dap_run.specs.Refusals.{board_refusal, request_refusal}
use Rattle.dap_launch.specs.declared.file.FileText.{FileText}
use Rattle.dap_run.specs.declared.program.Program.{Program}
use Rattle.dap_run.specs.Lives.{is_live, end_of, exception_of}
use Rattle.dap_prompt.specs.Inputs.{ends_question}
use Rattle.dap_session.specs.States.{SessionState, with_board, with_filters, after_answer}
use Rattle.dap_session.specs.States.{program_over}
use Rattle.dap_session.specs.Turns.{Turn, Replied, turn_of, change_follow, refusing, succeeding, accepting}
use Rattle.dap_session.specs.Breakpoints.{setting_lines, setting_functions, setting_data, describing_data}
use Rattle.dap_session.specs.Breakpoints.{setting_instructions, locating}
use Rattle.dap_session.specs.Evaluations.{evaluating, handling}
use Rattle.dap_session.specs.Memory.{memory_at, writing, first_line, code_at}
use Rattle.dap_session.specs.Targets.{finding_target, going_to}
use Rattle.dap_session.specs.Launches.{beginning_where, launching, restarting}

-- ---- commands of a board

abbrev pub board_done : Performed → FollowUp → SessionState → Replied
board_done (Ok (b, now)) f s = succeeding (body.Board b) f (with_board now s)
board_done (Err fault) f s = refusing (board_refusal fault) s

abbrev pub performing : BoardCommand → FollowUp → SessionState → Replied
performing c f s = board_done (board_result c s.board) f s

-- ---- a run that goes on

-- the program is over then
abbrev pub finish_done : Performed → ℕ → SessionState → Replied
finish_done (Ok (b, now)) code s =
    succeeding (body.Board b) (follow.Ended code) (program_over (with_board (after Interrupt now) s))
finish_done (Err fault) code s = refusing (board_refusal fault) s

-- so is one whose run is held at its end
abbrev pub resuming_from : Option End → BoardCommand → SessionState → Replied
resuming_from None c s = performing c follow.Continued s
resuming_from (Some how) c s = finish_done (board_result c s.board) (exit_code how) s

abbrev pub resuming : BoardCommand → SessionState → Replied
resuming c s = resuming_from (end_of s.settings.program) c s

-- ---- the end of a program

-- what ended the run that is held at its end
abbrev pub explaining : Option UndefinedOpcode → SessionState → Replied
explaining None s = refusing (codes "the program is stopped at no exception") s
explaining (Some undefined) s = succeeding (body.Exception undefined) follow.Nothing s

-- the events behind the response to a request that ends it
abbrev pub end_follow : SessionState → FollowUp
end_follow s = if is_live s.settings.program then follow.Ended 1 else follow.Nothing

abbrev pub and_ended : Replied → Replied
and_ended r = record r { state = program_over r.state }

-- a reset of the board ends the program
abbrev pub resetting : SessionState → Replied
resetting s = and_ended (performing board.BoardReset (end_follow s) s)

abbrev pub terminating : SessionState → Replied
terminating s = accepting (end_follow s) (program_over (with_board (after Interrupt s.board) s))

-- ---- the session

abbrev pub set_initialized : SupportedEvents → SessionState → SessionState
set_initialized supported s =
    record s { settings = record s.settings { is_initialized = true; supported = supported } }

-- the editor is told the capabilities, and from then on lines and columns as it counts
abbrev pub initializing : SupportedEvents → Numbering → SessionState → Replied
initializing supported numbering s =
    if s.settings.is_initialized then refusing (codes "initialized already") s
    else succeeding (body.Capabilities numbering) follow.Nothing (set_initialized supported s)

abbrev pub set_configured : SessionState → SessionState
set_configured s = record s { settings = record s.settings { is_configured = true } }

abbrev pub configuring : SessionState → Replied
configuring s = beginning_where s.settings.program (set_configured s)

abbrev pub disconnecting : SessionState → Replied
disconnecting s = accepting follow.Nothing (record s { settings = record s.settings { has_ended = true } })

-- ---- requests that change nothing

abbrev pub reading : ℕ → SignedOffset → ℕ → SessionState → Replied
reading address offset count s =
    succeeding (memory_at (address_at address offset) (far_address address offset) count s.board.machine)
    follow.Nothing s

abbrev pub path_of : Program → Text
path_of p = p.launch.program

-- nothing has a line without a program
abbrev pub path_if : Option Program → Text
path_if None = []
path_if (Some p) = path_of p

abbrev pub disassembling_from : ℕ → SignedOffset → ℕ → OperandStyle → SessionState → Replied
disassembling_from address instruction_offset count operands s =
    let first = first_line address instruction_offset s.board in
    succeeding (code_at (path_if s.settings.program) operands first count s.board) follow.Nothing s

abbrev pub sources : Option Program → List Text
sources program = option_to_list (option_map path_of program)

-- ---- the requests, a row for each

-- an editor is told of what it changes by hand
abbrev pub on_board : BoardCommand → SessionState → Replied
on_board board.Attach s = refusing (codes "attach is not supported: launch a program") s
on_board board.Disconnect s = disconnecting s
on_board board.ConfigurationDone s = configuring s
on_board board.Threads s = performing board.Threads follow.Nothing s
on_board (board.StackTrace start levels) s = performing (board.StackTrace start levels) follow.Nothing s
on_board board.Continue s = resuming board.Continue s
on_board (board.Step kind granularity) s = resuming (board.Step kind granularity) s
on_board board.Pause s = performing board.Pause (follow.Stopped (AtBoard ByPause)) s
on_board (board.Source path) s = performing (board.Source path) follow.Nothing s
on_board (board.DumpCell code) s = performing (board.DumpCell code) follow.Nothing s
on_board board.DebugInfo s = performing board.DebugInfo follow.Nothing s
on_board board.InspectVariables s = performing board.InspectVariables follow.Nothing s
on_board (board.BoardSwitches value) s = performing (board.BoardSwitches value) (change_follow s) s
on_board (board.BoardPress vector) s = performing (board.BoardPress vector) (change_follow s) s
on_board (board.BoardType text) s = performing (board.BoardType text) (change_follow s) s
on_board board.BoardReset s = resetting s
on_board (board.BoardAliases has_aliases) s = performing (board.BoardAliases has_aliases) (change_follow s) s

abbrev pub on_source : Text → SourceCommand → SessionState → Replied
on_source path (source.SetBreakpoints lines) s = setting_lines path lines s
on_source path (source.BreakpointLocations first last) s = locating path first last s
on_source path (source.GotoTargets line) s = finding_target path line s

abbrev pub on_breakpoints : BreakpointsCommand → SessionState → Replied
on_breakpoints (breakpoints.SetFunctionBreakpoints functions) s = setting_functions functions s
on_breakpoints (breakpoints.SetExceptionBreakpoints filters) s =
    accepting follow.Nothing (with_filters filters s)
on_breakpoints (breakpoints.DataBreakpointInfo query) s = describing_data query s
on_breakpoints (breakpoints.SetDataBreakpoints on_data) s = setting_data on_data s
on_breakpoints (breakpoints.SetInstructionBreakpoints instructions) s = setting_instructions instructions s

abbrev pub on_memory : MemoryCommand → SessionState → Replied
on_memory (memory.ReadMemory address offset count) s = reading address offset count s
on_memory (memory.WriteMemory address offset bytes) s = writing address offset bytes s
on_memory (memory.Disassemble address offset instruction_offset count operands) s =
    disassembling_from (wrapped_at address offset) instruction_offset count operands s

-- Those that go back are for a session whose run is recorded.
abbrev pub on_editor : EditorCommand → SessionState → Replied
on_editor (editor.Initialize supported numbering) s = initializing supported numbering s
on_editor editor.Terminate s = terminating s
on_editor editor.ExceptionInfo s = explaining (exception_of s.settings.program) s
on_editor (editor.Evaluate expression context format) s = evaluating expression context format s
on_editor editor.LoadedSources s = succeeding (body.Sources (sources s.settings.program)) follow.Nothing s
on_editor (editor.StepBack by) s = refusing (codes "unknown command") s
on_editor editor.ReverseContinue s = refusing (codes "unknown command") s
on_editor (editor.Goto target) s = going_to target s
on_editor (editor.OnSource path c) s = on_source path c s
on_editor (editor.Breakpoints c) s = on_breakpoints c s
on_editor (editor.Memory c) s = on_memory c s
on_editor (editor.Variables c) s = handling c s

-- ---- objections

-- of memory only how many instructions it is to a disassembly can be out of bounds
abbrev pub bound_refusal : RequestContent → Text
bound_refusal (asked.Editor (editor.Memory c)) = codes "bad arguments: instructionOffset"
bound_refusal other = codes "bad arguments"

abbrev pub objection : RequestContent → SessionState → Option Text
objection a s =
    if not (s.settings.is_initialized || opens a) then Some (codes "not initialized") else
    if not (is_bounded a) then Some (bound_refusal a) else None

-- ---- a request

abbrev pub asking : RequestContent → Option FileText → SessionState → Turn
asking (asked.Load (load.Launch l)) found s = launching l found s
asking (asked.Load (load.Restart l)) found s = restarting l found s
asking (asked.Board c) found s = turn_of (on_board c s)
asking (asked.Editor c) found s = turn_of (on_editor c s)
asking (asked.Faulty f) found s = turn_of (refusing (request_refusal f) s)

abbrev pub asking_unless : Option Text → RequestContent → Option FileText → SessionState → Turn
asking_unless (Some text) a found s = turn_of (refusing text s)
asking_unless None a found s = asking a found s

abbrev pub and_noted : RequestContent → Turn → Turn
and_noted a t = record t { state = after_answer (ends_question a) t.state }

-- a request; `found` is what was found at the path that it needs
unfoldable pub turn : RequestContent → Option FileText → SessionState → Turn
turn a found s = and_noted a (asking_unless (objection a s) a found s)

-- ---- the path whose text a request needs

abbrev pub wanted_file : RequestContent → SessionState → Option Text
wanted_file (asked.Load (load.Launch l)) s = Some l.program
wanted_file (asked.Load (load.Restart None)) s = option_map path_of s.settings.program
wanted_file (asked.Load (load.Restart (Some l))) s = Some l.program
wanted_file (asked.Board c) s = None
wanted_file (asked.Editor c) s = None
wanted_file (asked.Faulty f) s = None
