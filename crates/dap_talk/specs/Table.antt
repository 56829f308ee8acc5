-- The debug commands (Debug Adapter Protocol, "Requests"; Jupyter messaging, "Debug request"): how
-- each is spelled, and its arguments.
use Rattle.std.specs.Prelude.{
  ◌≤◌,
  length,
  ℕ,
  zero,
  suc,
  Bool,
  false,
  List,
  [],
  ◌∷◌,
  Option,
  option_map,
  find,
  codes,
}
use Rattle.std.specs.Str.{bytes_eq}
use Rattle.base_text.specs.Bytes.{Text}
use Rattle.serde_json.specs.Data.{Data}
use Rattle.lab_shown.specs.declared.step.Granularity.{Granularity}
use Rattle.lab_shown.specs.declared.step.Granularity.TheVariants.{Line}
use Rattle.lab_shown.specs.declared.step.StepKind.{StepKind}
use Rattle.lab_shown.specs.declared.step.StepKind.TheVariants.{Over, In, Out}
use Rattle.dap_talk.specs.declared.command.CommandName.{CommandName}
use Rattle.dap_talk.specs.declared.command.CommandName.TheVariants as name
use Rattle.dap_talk.specs.declared.command.DapCommand.{DapCommand}
use Rattle.dap_talk.specs.declared.command.DapCommand.TheVariants as command
use Rattle.dap_talk.specs.Argument.{
  Kind,
  number,
  text,
  truth,
  source,
  breakpoints,
  granularity,
  address,
  Found,
  found_number,
  found_text,
  found_truth,
  found_lines,
  found_granularity,
  Argument,
  required_argument,
  optional,
  all_found,
}

abbrev pub spelling_of : CommandName → Text
spelling_of name.Initialize = codes "initialize"
spelling_of name.Attach = codes "attach"
spelling_of name.Disconnect = codes "disconnect"
spelling_of name.ConfigurationDone = codes "configurationDone"
spelling_of name.SetBreakpoints = codes "setBreakpoints"
spelling_of name.Threads = codes "threads"
spelling_of name.StackTrace = codes "stackTrace"
spelling_of name.Scopes = codes "scopes"
spelling_of name.Variables = codes "variables"
spelling_of name.SetVariable = codes "setVariable"
spelling_of name.Continue = codes "continue"
spelling_of name.Next = codes "next"
spelling_of name.StepIn = codes "stepIn"
spelling_of name.StepOut = codes "stepOut"
spelling_of name.Pause = codes "pause"
spelling_of name.Disassemble = codes "disassemble"
spelling_of name.Source = codes "source"
spelling_of name.DumpCell = codes "dumpCell"
spelling_of name.DebugInfo = codes "debugInfo"
spelling_of name.InspectVariables = codes "inspectVariables"
spelling_of name.BoardSwitches = codes "boardSwitches"
spelling_of name.BoardPress = codes "boardPress"
spelling_of name.BoardType = codes "boardType"
spelling_of name.BoardReset = codes "boardReset"
spelling_of name.BoardAliases = codes "boardAliases"

-- a whole number of 32 bits
abbrev pub any_number : Kind
any_number = number 0 4294967295

abbrev pub byte : Kind
byte = number 0 255

abbrev pub count_to_256 : Kind
count_to_256 = number 1 256

abbrev pub number_or_0 : Text → Argument
number_or_0 key = optional key any_number (found_number 0)

abbrev pub breakpoints_or_none : Text → Argument
breakpoints_or_none key = optional key breakpoints (found_lines [])

abbrev pub granularity_or_line : Text → Argument
granularity_or_line key = optional key granularity (found_granularity Line)

-- the arguments of a command; commands without arguments ignore what a request has
abbrev pub arguments_of : CommandName → List Argument
arguments_of name.Initialize = []
arguments_of name.Attach = []
arguments_of name.Disconnect = []
arguments_of name.ConfigurationDone = []
arguments_of name.SetBreakpoints =
    required_argument (codes "source") source ∷ breakpoints_or_none (codes "breakpoints") ∷ []
arguments_of name.Threads = []
arguments_of name.StackTrace = number_or_0 (codes "startFrame") ∷ number_or_0 (codes "levels") ∷ []
arguments_of name.Scopes = required_argument (codes "frameId") any_number ∷ []
arguments_of name.Variables =
    required_argument (codes "variablesReference") any_number ∷
    number_or_0 (codes "start") ∷
    number_or_0 (codes "count") ∷ []
arguments_of name.SetVariable =
    required_argument (codes "variablesReference") any_number ∷
    required_argument (codes "name") text ∷
    required_argument (codes "value") text ∷ []
arguments_of name.Continue = []
arguments_of name.Next = granularity_or_line (codes "granularity") ∷ []
arguments_of name.StepIn = granularity_or_line (codes "granularity") ∷ []
arguments_of name.StepOut = granularity_or_line (codes "granularity") ∷ []
arguments_of name.Pause = []
arguments_of name.Disassemble =
    required_argument (codes "memoryReference") address ∷
    number_or_0 (codes "offset") ∷
    number_or_0 (codes "instructionOffset") ∷
    required_argument (codes "instructionCount") count_to_256 ∷ []
arguments_of name.Source = required_argument (codes "source") source ∷ []
arguments_of name.DumpCell = required_argument (codes "code") text ∷ []
arguments_of name.DebugInfo = []
arguments_of name.InspectVariables = []
arguments_of name.BoardSwitches = required_argument (codes "value") byte ∷ []
arguments_of name.BoardPress = required_argument (codes "vector") byte ∷ []
arguments_of name.BoardType = required_argument (codes "text") text ∷ []
arguments_of name.BoardReset = []
arguments_of name.BoardAliases = required_argument (codes "aliases") truth ∷ []

-- ---- the typed command

-- The value at a place, from 0; the table says of which kind it is.
abbrev pub nth : ℕ → List Found → Found
nth n [] = found_number 0
nth zero (value ∷ values) = value
nth (suc n) (value ∷ values) = nth n values

abbrev pub number_in : Found → ℕ
number_in (found_number n) = n
number_in _ = 0

abbrev pub text_in : Found → Text
text_in (found_text t) = t
text_in _ = []

abbrev pub truth_in : Found → Bool
truth_in (found_truth t) = t
truth_in _ = false

abbrev pub lines_in : Found → List ℕ
lines_in (found_lines ls) = ls
lines_in _ = []

abbrev pub granularity_in : Found → Granularity
granularity_in (found_granularity g) = g
granularity_in _ = Line

-- the command with the values that were found for its arguments
abbrev pub command_of : CommandName → List Found → DapCommand
command_of name.Initialize vs = command.Initialize
command_of name.Attach vs = command.Attach
command_of name.Disconnect vs = command.Disconnect
command_of name.ConfigurationDone vs = command.ConfigurationDone
command_of name.SetBreakpoints vs =
    command.SetBreakpoints (text_in (nth 0 vs)) (lines_in (nth 1 vs))
command_of name.Threads vs = command.Threads
command_of name.StackTrace vs = command.StackTrace (number_in (nth 0 vs)) (number_in (nth 1 vs))
command_of name.Scopes vs = command.Scopes (number_in (nth 0 vs))
command_of name.Variables vs =
    command.Variables (number_in (nth 0 vs)) (number_in (nth 1 vs)) (number_in (nth 2 vs))
command_of name.SetVariable vs =
    command.SetVariable (number_in (nth 0 vs)) (text_in (nth 1 vs)) (text_in (nth 2 vs))
command_of name.Continue vs = command.Continue
command_of name.Next vs = command.Step Over (granularity_in (nth 0 vs))
command_of name.StepIn vs = command.Step In (granularity_in (nth 0 vs))
command_of name.StepOut vs = command.Step Out (granularity_in (nth 0 vs))
command_of name.Pause vs = command.Pause
command_of name.Disassemble vs =
    command.Disassemble (number_in (nth 0 vs)) (number_in (nth 1 vs))
    (number_in (nth 2 vs)) (number_in (nth 3 vs))
command_of name.Source vs = command.Source (text_in (nth 0 vs))
command_of name.DumpCell vs = command.DumpCell (text_in (nth 0 vs))
command_of name.DebugInfo vs = command.DebugInfo
command_of name.InspectVariables vs = command.InspectVariables
command_of name.BoardSwitches vs = command.BoardSwitches (number_in (nth 0 vs))
command_of name.BoardPress vs = command.BoardPress (number_in (nth 0 vs))
command_of name.BoardType vs = command.BoardType (text_in (nth 0 vs))
command_of name.BoardReset vs = command.BoardReset
command_of name.BoardAliases vs = command.BoardAliases (truth_in (nth 0 vs))

abbrev pub step_name : StepKind → CommandName
step_name Over = name.Next
step_name In = name.StepIn
step_name Out = name.StepOut

abbrev pub name_of : DapCommand → CommandName
name_of command.Initialize = name.Initialize
name_of command.Attach = name.Attach
name_of command.Disconnect = name.Disconnect
name_of command.ConfigurationDone = name.ConfigurationDone
name_of (command.SetBreakpoints path lines) = name.SetBreakpoints
name_of command.Threads = name.Threads
name_of (command.StackTrace start levels) = name.StackTrace
name_of (command.Scopes frame) = name.Scopes
name_of (command.Variables reference start count) = name.Variables
name_of (command.SetVariable reference variable value) = name.SetVariable
name_of command.Continue = name.Continue
name_of (command.Step kind g) = step_name kind
name_of command.Pause = name.Pause
name_of (command.Disassemble from offset instruction_offset count) = name.Disassemble
name_of (command.Source path) = name.Source
name_of (command.DumpCell code) = name.DumpCell
name_of command.DebugInfo = name.DebugInfo
name_of command.InspectVariables = name.InspectVariables
name_of (command.BoardSwitches value) = name.BoardSwitches
name_of (command.BoardPress vector) = name.BoardPress
name_of (command.BoardType t) = name.BoardType
name_of command.BoardReset = name.BoardReset
name_of (command.BoardAliases aliases) = name.BoardAliases

-- the bounds that every command has that was read
abbrev pub IsBounded : DapCommand → Type 0
IsBounded (command.SetBreakpoints path lines) = length lines ≤ 256
IsBounded (command.Disassemble from offset instruction_offset count) = (1 ≤ count) × (count ≤ 256)
IsBounded other = Unit {0}

-- the command that a request makes with this name, if its arguments are as they must be
abbrev pub command_asked : CommandName → Data → Option DapCommand
command_asked name request = option_map (command_of name) (all_found (arguments_of name) request)

-- ---- the names

abbrev pub every_name : List CommandName
every_name =
    name.Initialize ∷ name.Attach ∷ name.Disconnect ∷ name.ConfigurationDone ∷
    name.SetBreakpoints ∷ name.Threads ∷ name.StackTrace ∷ name.Scopes ∷ name.Variables ∷
    name.SetVariable ∷ name.Continue ∷ name.Next ∷ name.StepIn ∷ name.StepOut ∷ name.Pause ∷
    name.Disassemble ∷ name.Source ∷ name.DumpCell ∷ name.DebugInfo ∷ name.InspectVariables ∷
    name.BoardSwitches ∷ name.BoardPress ∷ name.BoardType ∷ name.BoardReset ∷
    name.BoardAliases ∷ []

-- the first of these names that is spelled like the text
abbrev pub first_named : List CommandName → Text → Option CommandName
first_named names t = find (λ name. bytes_eq (spelling_of name) t) names

-- the command with this name, if there is one
abbrev pub command_named : Text → Option CommandName
command_named t = first_named every_name t
