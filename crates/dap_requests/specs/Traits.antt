-- What a request is, whatever its arguments are: a row for each request.
use Rattle.std.specs.Prelude.{Bool, true, false}
use Rattle.dap_requests.specs.declared.request.BoardCommand.{BoardCommand}
use Rattle.dap_requests.specs.declared.request.BoardCommand.TheVariants as board
use Rattle.dap_requests.specs.declared.request.BreakpointsCommand.{BreakpointsCommand}
use Rattle.dap_requests.specs.declared.request.BreakpointsCommand.TheVariants as breakpoints
use Rattle.dap_requests.specs.declared.request.EditorCommand.{EditorCommand}
use Rattle.dap_requests.specs.declared.request.EditorCommand.TheVariants as editor
use Rattle.dap_requests.specs.declared.request.EvaluateContext.{EvaluateContext}
use Rattle.dap_requests.specs.declared.request.EvaluateContext.TheVariants as context
use Rattle.dap_requests.specs.declared.request.MemoryCommand.{MemoryCommand}
use Rattle.dap_requests.specs.declared.request.MemoryCommand.TheVariants as memory
use Rattle.dap_requests.specs.declared.request.RequestContent.{RequestContent}
use Rattle.dap_requests.specs.declared.request.RequestContent.TheVariants as asked
use Rattle.dap_requests.specs.declared.request.SourceCommand.{SourceCommand}
use Rattle.dap_requests.specs.declared.request.SourceCommand.TheVariants as source
use Rattle.dap_requests.specs.declared.request.VariablesCommand.{VariablesCommand}
use Rattle.dap_requests.specs.declared.request.VariablesCommand.TheVariants as variables
use Rattle.dap_requests.specs.declared.traits.MidSearch.{MidSearch}
use Rattle.dap_requests.specs.declared.traits.MidSearch.TheVariants as mid
use Rattle.dap_requests.specs.declared.traits.RequestTraits.{RequestTraits}

-- of requests that come after `initialize`, and type nothing
abbrev pub amid : MidSearch → RequestTraits
amid is = record { opens = false; ends_question = false; mid_search = is }

-- of those that load a program, which has asked for no line
abbrev pub load_traits : RequestTraits
load_traits = record { opens = false; ends_question = true; mid_search = mid.Other }

abbrev pub board_traits : BoardCommand → RequestTraits
board_traits board.Attach = amid mid.Other
board_traits board.Disconnect = record { opens = true; ends_question = false; mid_search = mid.End }
board_traits board.ConfigurationDone = amid mid.Other
board_traits board.Threads = amid mid.Look
board_traits (board.StackTrace start levels) = amid mid.Look
board_traits board.Continue = amid mid.Other
board_traits (board.Step kind granularity) = amid mid.Other
board_traits board.Pause = amid mid.Pause
board_traits (board.Source path) = amid mid.Look
board_traits (board.DumpCell code) = amid mid.Other
board_traits board.DebugInfo = amid mid.Other
board_traits board.InspectVariables = amid mid.Other
board_traits (board.BoardSwitches value) = amid mid.Other
board_traits (board.BoardPress vector) = amid mid.Other
board_traits (board.BoardType text) = record { opens = false; ends_question = true; mid_search = mid.Other }
board_traits board.BoardReset = amid mid.Other
board_traits (board.BoardAliases aliases) = amid mid.Other

abbrev pub source_traits : SourceCommand → RequestTraits
source_traits (source.SetBreakpoints lines) = amid mid.Other
source_traits (source.BreakpointLocations first last) = amid mid.Look
source_traits (source.GotoTargets line) = amid mid.Look

abbrev pub breakpoints_traits : BreakpointsCommand → RequestTraits
breakpoints_traits (breakpoints.SetFunctionBreakpoints functions) = amid mid.Other
breakpoints_traits (breakpoints.SetExceptionBreakpoints filters) = amid mid.Other
breakpoints_traits (breakpoints.DataBreakpointInfo query) = amid mid.Look
breakpoints_traits (breakpoints.SetDataBreakpoints on_data) = amid mid.Other
breakpoints_traits (breakpoints.SetInstructionBreakpoints instructions) = amid mid.Other

abbrev pub memory_traits : MemoryCommand → RequestTraits
memory_traits (memory.ReadMemory address offset count) = amid mid.Look
memory_traits (memory.WriteMemory address offset bytes) = amid mid.Other
memory_traits (memory.Disassemble address offset instruction_offset count operands) = amid mid.Look

abbrev pub variables_traits : VariablesCommand → RequestTraits
variables_traits (variables.Scopes frame) = amid mid.Look
variables_traits (variables.Variables reference start count format) = amid mid.Look
variables_traits (variables.SetVariable reference name value format) = amid mid.Other
variables_traits (variables.SetExpression expression value format) = amid mid.Other
variables_traits (variables.Completions text column) = amid mid.Look

-- only what is typed at the prompt may be a command
abbrev pub evaluate_traits : EvaluateContext → RequestTraits
evaluate_traits context.Repl = amid mid.Other
evaluate_traits context.Watch = amid mid.Look
evaluate_traits context.Other = amid mid.Look

abbrev pub editor_traits : EditorCommand → RequestTraits
editor_traits (editor.Initialize supported numbering) =
    record { opens = true; ends_question = false; mid_search = mid.Other }
editor_traits editor.Terminate = amid mid.End
editor_traits editor.ExceptionInfo = amid mid.Look
editor_traits (editor.Evaluate expression shown format) = evaluate_traits shown
editor_traits editor.LoadedSources = amid mid.Look
editor_traits (editor.StepBack by) = amid mid.Other
editor_traits editor.ReverseContinue = amid mid.Other
editor_traits (editor.Goto target) = amid mid.Other
editor_traits (editor.OnSource path c) = source_traits c
editor_traits (editor.Breakpoints c) = breakpoints_traits c
editor_traits (editor.Memory c) = memory_traits c
editor_traits (editor.Variables c) = variables_traits c

-- what fails whatever the program is, fails at any time
abbrev pub traits_of : RequestContent → RequestTraits
traits_of (asked.Load c) = load_traits
traits_of (asked.Board c) = board_traits c
traits_of (asked.Editor c) = editor_traits c
traits_of (asked.Faulty fault) = record { opens = true; ends_question = false; mid_search = mid.Look }

-- what a request is while a search backward goes on
abbrev pub mid_search : RequestContent → MidSearch
mid_search a = (traits_of a).mid_search

-- a request that may come before `initialize`
abbrev pub opens : RequestContent → Bool
opens a = (traits_of a).opens
