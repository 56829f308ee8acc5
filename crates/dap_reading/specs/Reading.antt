-- What a JSON value is as an editor's request (Debug Adapter Protocol, "Base Protocol": ProtocolMessage
-- and Request): the commands of editors come before those that the kernel has too.
use Rattle.std.specs.Prelude.{
  ◌≤◌,
  length,
  Bool,
  if◌then◌else◌,
  List,
  [],
  ◌∷◌,
  Option,
  Some,
  None,
  is_some,
  option_and_then,
  Result,
  Ok,
  Err,
  codes,
}
use Rattle.base_text.specs.Bytes.{Text}
use Rattle.serde_json.specs.Data.{Data, string}
use Rattle.serde_json.specs.Find.{get, as_null}
use Rattle.dap_answers.specs.Json.{object_of, whole_number}
use Rattle.dap_talk.specs.Reading.{Envelope, envelope_of, Reading, not_request, unknown_command}
use Rattle.dap_talk.specs.Reading.{bad_arguments, request, reading}
use Rattle.dap_reading.specs.Argument.{IsBackWithin}
use Rattle.dap_messages.specs.declared.message.Numbering.{Numbering}
use Rattle.dap_reading.specs.declared.name.EditorName.{EditorName}
use Rattle.dap_requests.specs.declared.request.EditorCommand.{EditorCommand}
use Rattle.dap_requests.specs.declared.request.EditorCommand.TheVariants as command
use Rattle.dap_requests.specs.declared.request.RequestFault.TheVariants.{NotRequest, UnknownCommand}
use Rattle.dap_requests.specs.declared.request.RequestFault.TheVariants.{Arguments, Argument}
use Rattle.dap_requests.specs.declared.request.RequestContent.{RequestContent}
use Rattle.dap_requests.specs.declared.request.RequestContent.TheVariants.{Load, Board, Editor, Faulty}
use Rattle.dap_requests.specs.declared.request.BoardCommand.{BoardCommand}
use Rattle.dap_requests.specs.declared.request.SourceCommand.{SourceCommand}
use Rattle.dap_requests.specs.declared.request.SourceCommand.TheVariants as source
use Rattle.dap_requests.specs.declared.request.BreakpointsCommand.{BreakpointsCommand}
use Rattle.dap_requests.specs.declared.request.BreakpointsCommand.TheVariants as breakpoints
use Rattle.dap_requests.specs.declared.request.MemoryCommand.{MemoryCommand}
use Rattle.dap_requests.specs.declared.request.MemoryCommand.TheVariants as memory
use Rattle.dap_requests.specs.Board.{board_command}
use Rattle.dap_requests.specs.declared.request.EditorRequest.{EditorRequest}
use Rattle.dap_reading.specs.Table.{command_named, command_asked}

-- ---- arguments that are `null`

abbrev pub has_null_arguments : Data → Bool
has_null_arguments d = is_some (option_and_then as_null (get (codes "arguments") d))

-- a request that has no arguments
abbrev pub bare_request : Envelope → Data
bare_request e = object_of (
    (codes "command", string e.command) ∷
    (codes "seq", whole_number e.seq) ∷
    (codes "type", string (codes "request")) ∷ [])

-- a request with the arguments `null` counts as one without arguments
abbrev pub without_null : Envelope → Data → Data
without_null e d = if has_null_arguments d then bare_request e else d

-- ---- what is asked for

-- a command of the kernel asks for the same, if editors send it with the same arguments
abbrev pub asked_of_kernel : Option BoardCommand → RequestContent
asked_of_kernel (Some c) = Board c
asked_of_kernel None = Faulty UnknownCommand

-- by a command that the kernel has too
abbrev pub asked_of_board : Reading → RequestContent
asked_of_board not_request = Faulty NotRequest
asked_of_board (unknown_command seq command) = Faulty UnknownCommand
asked_of_board (bad_arguments seq command) = Faulty Arguments
asked_of_board (request seq command) = asked_of_kernel (board_command command)

-- by a command of editors, or the name of its first bad argument
abbrev pub asked_of_editor : Result RequestContent Text → RequestContent
asked_of_editor (Ok a) = a
asked_of_editor (Err name) = Faulty (Argument name)

abbrev pub asked_by : Numbering → Option EditorName → Data → RequestContent
asked_by numbering (Some name) d = asked_of_editor (command_asked numbering name d)
asked_by numbering None d = asked_of_board (reading d)

-- ---- the request

-- a value that isn't a request
abbrev pub unreadable : EditorRequest
unreadable = record { seq = 0; command = []; asked = Faulty NotRequest }

abbrev pub request_of : Numbering → Envelope → Data → EditorRequest
request_of numbering e d = record {
  seq = e.seq;
  command = e.command;
  asked = asked_by numbering (command_named e.command) d;
}

abbrev pub request_in : Numbering → Data → Option Envelope → EditorRequest
request_in numbering d None = unreadable
request_in numbering d (Some e) = request_of numbering e (without_null e d)

-- its number and command with what it asks for, where lines and columns count so
unfoldable pub editor_request : Numbering → Data → EditorRequest
editor_request numbering d = request_in numbering d (envelope_of d)

-- ---- the bounds that every request has that was read

abbrev pub AreFew : {A : Type 0} → List A → Type 0
AreFew items = length items ≤ 256

abbrev pub IsSourceBounded : SourceCommand → Type 0
IsSourceBounded (source.SetBreakpoints lines) = AreFew lines
IsSourceBounded (source.BreakpointLocations first last) = Unit {0}
IsSourceBounded (source.GotoTargets line) = Unit {0}

abbrev pub AreBreakpointsBounded : BreakpointsCommand → Type 0
AreBreakpointsBounded (breakpoints.SetFunctionBreakpoints functions) = AreFew functions
AreBreakpointsBounded (breakpoints.SetExceptionBreakpoints filters) = Unit {0}
AreBreakpointsBounded (breakpoints.DataBreakpointInfo query) = Unit {0}
AreBreakpointsBounded (breakpoints.SetDataBreakpoints on_data) = AreFew on_data
AreBreakpointsBounded (breakpoints.SetInstructionBreakpoints instructions) = AreFew instructions

abbrev pub IsMemoryBounded : MemoryCommand → Type 0
IsMemoryBounded (memory.ReadMemory from offset count) = Unit {0}
IsMemoryBounded (memory.WriteMemory to offset bytes) = length bytes ≤ 65536
IsMemoryBounded (memory.Disassemble from offset instructions count operands) =
    (1 ≤ count) × (count ≤ 1024) × IsBackWithin 65536 instructions

abbrev pub IsCommandBounded : EditorCommand → Type 0
IsCommandBounded (command.OnSource path c) = IsSourceBounded c
IsCommandBounded (command.Breakpoints c) = AreBreakpointsBounded c
IsCommandBounded (command.Memory c) = IsMemoryBounded c
IsCommandBounded other = Unit {0}

abbrev pub IsBounded : RequestContent → Type 0
IsBounded (Load c) = Unit {0}
IsBounded (Board c) = Unit {0}
IsBounded (Editor c) = IsCommandBounded c
IsBounded (Faulty fault) = Unit {0}
