-- The inputs of a run among the requests: what is typed, switched, pressed and changed by hand.
use Rattle.std.specs.Prelude.{ℕ, ◌-◌, take, Bool, true, false, ◌||◌, Option, Some, None, is_some}
use Rattle.std.specs.Prelude.{Result, Ok, codes}
use Rattle.base_text.specs.Bytes.{Bytes, Text}
use Rattle.base_text.specs.Latin.{latin_bytes}
use Rattle.lab_core.specs.Board.{Board}
use Rattle.dap_messages.specs.declared.message.EditorOutcome.{EditorOutcome}
use Rattle.dap_messages.specs.declared.message.EditorOutcome.TheVariants.{Success, Refused}
use Rattle.dap_requests.specs.Traits.{traits_of}
use Rattle.dap_requests.specs.declared.request.BoardCommand.{BoardCommand}
use Rattle.dap_requests.specs.declared.request.BoardCommand.TheVariants as command
use Rattle.dap_requests.specs.declared.request.EditorCommand.TheVariants as editor
use Rattle.dap_requests.specs.declared.request.MemoryCommand.TheVariants as memory
use Rattle.dap_requests.specs.declared.request.EvaluateContext.TheVariants.{Repl, Watch}
use Rattle.dap_requests.specs.declared.request.RequestContent.{RequestContent}
use Rattle.dap_requests.specs.declared.request.RequestContent.TheVariants as asked
use Rattle.dap_values.specs.declared.assignment.SetValue.{SetValue}
use Rattle.dap_prompt.specs.Answers.{value_set}
use Rattle.dap_history.specs.declared.input.Input.{Input}
use Rattle.dap_history.specs.declared.input.Input.TheVariants as input
use Rattle.dap_history.specs.Runs.{after_input}
use Rattle.dap_values.specs.Distances.{address_at}
use Rattle.dap_prompt.specs.declared.prompt.PromptCommand.{PromptCommand}
use Rattle.dap_prompt.specs.declared.prompt.PromptCommand.TheVariants as prompt
use Rattle.dap_prompt.specs.Prompt.{behind, prompt_command}

abbrev pub command_input : BoardCommand → Option Input
command_input (command.BoardType text) = Some (input.Typed (latin_bytes text))
command_input (command.BoardSwitches value) = Some (input.Switches value)
command_input (command.BoardPress vector) = Some (input.Press vector)
command_input command.Attach = None
command_input command.Disconnect = None
command_input command.ConfigurationDone = None
command_input command.Threads = None
command_input (command.StackTrace start levels) = None
command_input command.Continue = None
command_input (command.Step kind granularity) = None
command_input command.Pause = None
command_input (command.Source path) = None
command_input (command.DumpCell code) = None
command_input command.DebugInfo = None
command_input command.InspectVariables = None
command_input command.BoardReset = None
command_input (command.BoardAliases has_aliases) = None

abbrev pub prompt_input : PromptCommand → Option Input
prompt_input (prompt.Board c) = command_input c
prompt_input prompt.MissingByte = None
prompt_input prompt.Evaluate = None

abbrev pub bytes_input : Option ℕ → Bytes → Option Input
bytes_input None bytes = None
bytes_input (Some start) bytes = Some (input.Write start (take (65536 - start) bytes))

-- by which a value is set
abbrev pub set_input : Option (Result SetValue Text) → Option Input
set_input (Some (Ok set)) = Some set.input
set_input other = None

-- what a request changes by hand if it is carried out on this board
abbrev pub input_of : RequestContent → Board → Option Input
input_of (asked.Board c) b = command_input c
input_of (asked.Editor (editor.Evaluate expression Repl format)) b =
    prompt_input (prompt_command expression)
input_of (asked.Editor (editor.Variables c)) b = set_input (value_set c b)
input_of (asked.Editor (editor.Memory (memory.WriteMemory address offset bytes))) b =
    bytes_input (address_at address offset) bytes
input_of (asked.Editor (editor.Goto target)) b =
    Some (input.Registers (record b.machine.regs { pc = target }))
input_of other b = None

-- If a watch may be a line of the prompt, it is evaluated as one.
abbrev pub as_meant : Bool → RequestContent → RequestContent
as_meant true (asked.Editor (editor.Evaluate line Watch format)) =
    asked.Editor (editor.Evaluate line Repl format)
as_meant has_commands a = a

-- a request is a line of the prompt that types
abbrev pub types_at_prompt : RequestContent → Bool
types_at_prompt (asked.Editor (editor.Evaluate line Repl format)) = is_some (behind (codes "type ") line)
types_at_prompt other = false

-- a line is typed by a request, or a program is loaded, which has asked for none
abbrev pub ends_question : RequestContent → Bool
ends_question a = (traits_of a).ends_question || types_at_prompt a

abbrev pub after_input_if : Option Input → Board → Board
after_input_if None b = b
after_input_if (Some i) b = after_input i b

abbrev pub is_success : EditorOutcome → Bool
is_success (Success body) = true
is_success (Refused text) = false
