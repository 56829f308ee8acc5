-- What the laws say of the messages of a session.
use Rattle.std.specs.Prelude.{◌≡◌, ℕ, List, [], ◌∷◌, ◌++◌, Bool, true, false, not, ◌&&◌, Option, Some, None}
use Rattle.std.specs.Prelude.{if◌then◌else◌, ◌⊎◌}
use Rattle.std.specs.List.{filter_map, flat_map, fold, sum_by, list_any}
use Rattle.base_text.specs.Bytes.{Bytes, Text}
use Rattle.lab_core.specs.declared.answer.End.{End}
use Rattle.lab_core.specs.declared.answer.SliceOutcome.{SliceOutcome}
use Rattle.lab_core.specs.declared.run_state.RunState.{RunState}
use Rattle.lab_core.specs.declared.run_state.RunState.TheVariants.{NoRun, Running, Stopped}
use Rattle.lab_core.specs.Board.{Board}
use Rattle.lab_core.specs.Slices.{traffic_of}
use Rattle.dap_messages.specs.declared.message.EditorEvent.{EditorEvent}
use Rattle.dap_messages.specs.declared.message.EditorEvent.TheVariants as event
use Rattle.dap_messages.specs.declared.message.EditorStop.TheVariants.{Goto}
use Rattle.dap_messages.specs.declared.message.Message.{Message}
use Rattle.dap_messages.specs.declared.message.Message.TheVariants as message
use Rattle.dap_messages.specs.declared.message.EditorOutcome.{EditorOutcome}
use Rattle.dap_messages.specs.declared.message.EditorOutcome.TheVariants.{Refused}
use Rattle.dap_messages.specs.declared.message.OutputCategory.TheVariants.{Stdout}
use Rattle.dap_requests.specs.declared.request.EvaluateContext.TheVariants as context
use Rattle.dap_board.specs.Commands as board
use Rattle.dap_requests.specs.Board.{kernel_command}
use Rattle.dap_requests.specs.declared.request.BoardCommand.TheVariants as command
use Rattle.dap_requests.specs.declared.request.SourceCommand.TheVariants as source
use Rattle.dap_requests.specs.declared.request.BreakpointsCommand.TheVariants as breakpoints
use Rattle.dap_requests.specs.declared.request.MemoryCommand.TheVariants as memory
use Rattle.dap_requests.specs.declared.request.RequestContent.{RequestContent}
use Rattle.dap_requests.specs.declared.request.RequestContent.TheVariants as asked
use Rattle.dap_requests.specs.declared.request.EditorCommand.TheVariants as editor
use Rattle.dap_requests.specs.declared.request.VariablesCommand.{VariablesCommand}
use Rattle.dap_requests.specs.declared.request.VariablesCommand.TheVariants as variables
use Rattle.dap_run.specs.declared.messages.RequestId.{RequestId}
use Rattle.dap_run.specs.declared.end.EndPolicy.TheVariants.{Hold}
use Rattle.dap_run.specs.Ends.{exit_code}
use Rattle.dap_run.specs.Messages.{as_messages, end_events}
use Rattle.dap_run.specs.Slices.{policy_events}
use Rattle.dap_session.specs.Slices.{slice_end_in}
use Rattle.i80_devs.specs.Console.{written_to_console}
use Rattle.dap_run.specs.declared.program.Phase.{Phase}
use Rattle.dap_run.specs.declared.program.Phase.TheVariants as phase
use Rattle.dap_run.specs.declared.program.Program.{Program}
use Rattle.dap_run.specs.Lives.{is_live, policy_of}
use Rattle.dap_session.specs.States.{SessionState, wants_slice}
use Rattle.dap_session.specs.Requests.{turn}
use Rattle.dap_session.specs.Slices.{Told, Input, request, slice, caller_of, step}

-- ---- responses

-- the request that a message answers
abbrev pub caller_in : Message → Option RequestId
caller_in (message.Response r) = Some (record { seq = r.request_seq; command = r.command })
caller_in (message.Event e) = None

abbrev pub callers_answered : List Message → List RequestId
callers_answered messages = filter_map caller_in messages

-- the request of an input
abbrev pub request_in : Input → Option RequestId
request_in (request r found) = Some (caller_of r)
request_in slice = None

abbrev pub callers_asking : List Input → List RequestId
callers_asking inputs = filter_map request_in inputs

-- ---- the console

-- what a message shows of the program's console
abbrev pub stdout_in : Message → Bytes
stdout_in (message.Event (event.Output Stdout bytes place)) = bytes
stdout_in other = []

abbrev pub console_of : List Message → Bytes
console_of messages = flat_map stdout_in messages

-- the bytes that the steps of a slice write by OUT 1
abbrev pub written_in : ℕ × SliceOutcome → Board → Bytes
written_in (k, ending) b = filter_map written_to_console (traffic_of k b)

abbrev pub written_by : Input → SessionState → Bytes
written_by (request r found) s = []
written_by slice s = if wants_slice s then written_in (slice_end_in 4096 s) s.board else []

-- the bytes that the steps of all slices write, in order
abbrev pub all_written : List Input → SessionState → Bytes
all_written [] s = []
all_written (input ∷ inputs) s = written_by input s ++ all_written inputs (step input s).state

-- ---- stops

-- what an editor shows: a stopped program, or none
pub data Shown : Type 0 where
  stopped : Shown
  unstopped : Shown

-- what it shows after one more message
abbrev pub shown_after : Shown → Message → Shown
shown_after before (message.Event (event.Stopped reason)) = stopped
shown_after before (message.Event (event.StoppedAt breakpoints)) = stopped
shown_after before (message.Event event.Continued) = unstopped
shown_after before (message.Event event.Terminated) = unstopped
shown_after before other = before

-- what it shows after these messages
abbrev pub shown_by : List Message → Shown
shown_by messages = fold shown_after unstopped messages

-- what it must show of a run in this state
abbrev pub shown_for : RunState → Shown
shown_for NoRun = unstopped
shown_for Running = unstopped
shown_for Stopped = stopped

-- ---- ends

-- the number of messages that tell the end of a program
abbrev pub ends_in : Message → ℕ
ends_in (message.Event event.Terminated) = 1
ends_in other = 0

abbrev pub ends_told : List Message → ℕ
ends_told messages = sum_by ends_in messages

-- the number of programs that ended: one if one was live and isn't any more
abbrev pub ends_between : Option Program → Option Program → ℕ
ends_between before now = if is_live before && not (is_live now) then 1 else 0

abbrev pub has_run : RunState → Bool
has_run NoRun = false
has_run Running = true
has_run Stopped = true

abbrev pub is_begun : Phase → Bool
is_begun phase.Loaded = false
is_begun phase.Begun = true
is_begun (phase.Held how) = true
is_begun phase.Over = false

-- a program has begun, and isn't over
abbrev pub has_begun : Option Program → Bool
has_begun None = false
has_begun (Some p) = is_begun p.phase

-- ---- events

abbrev pub event_in : Message → Option EditorEvent
event_in (message.Response r) = None
event_in (message.Event e) = Some e

abbrev pub events_in : List Message → List EditorEvent
events_in messages = filter_map event_in messages

-- a request that loads a program
abbrev pub asks_to_load : RequestContent → Bool
asks_to_load (asked.Load c) = true
asks_to_load (asked.Board c) = false
asks_to_load (asked.Editor c) = false
asks_to_load (asked.Faulty f) = false

abbrev pub loads : Input → Bool
loads (request r found) = asks_to_load r.asked
loads slice = false

-- ---- the ends of programs

-- from this state on
pub record EndsAreTold (s : SessionState) : Type 0 where
  -- a run is there exactly while a program has begun and isn't over
  pub run : has_run s.board.run ≡ has_begun s.settings.program
  -- without a live program only a launch or a restart tells more than its response
  pub quiet : (input : Input) → is_live s.settings.program ≡ false → loads input ≡ false
      → events_in (step input s).messages ≡ []
  -- where a live program ends `terminated` goes out once, and nowhere else
  pub end : (input : Input) → let after = (step input s).state in
      ends_told (step input s).messages ≡ ends_between s.settings.program after.settings.program

-- ---- the end of a run

-- the machine, the devices and the trace are the same
pub record SameParts (b b' : Board) : Type 0 where
  pub machine : b'.machine ≡ b.machine
  pub past : b'.past ≡ b.past
  pub trace : b'.trace ≡ b.trace

-- A slice's messages, and the session after it, where the run ended so and left this board.
pub record EndIsTold (how : End) (s : SessionState) (b : Board) (t : Told) : Type 0 where
  pub parts : SameParts b t.state.board
  -- the last events say how it ended
  pub before : List Message
  pub told : t.messages ≡ before
      ++ as_messages (policy_events (policy_of s.settings.filters s.settings.program how) how)
  -- so does a run that is held once it goes on
  pub later : policy_of s.settings.filters s.settings.program how ≡ Hold
      → (turn (asked.Board command.Continue) None t.state).events ≡ end_events (exit_code how)

-- ---- refusals

pub record LeavesAll (s s' : SessionState) : Type 0 where
  pub board : s'.board ≡ s.board
  pub program : s'.settings.program ≡ s.settings.program
  pub points : s'.settings.points ≡ s.settings.points

-- what is refused leaves the board, the program and the breakpoints
abbrev pub RefusalLeaves : SessionState → EditorOutcome → SessionState → Type 0
RefusalLeaves s outcome s' = (text : Text) → outcome ≡ Refused text → LeavesAll s s'

-- ---- changes by hand

-- an editor also fetches anew what it shows where PC was set
abbrev pub is_invalidated : EditorEvent → Bool
is_invalidated event.Invalidated = true
is_invalidated (event.Stopped Goto) = true
is_invalidated other = false

-- the machine, the devices and the trace stay as they were, or it is told that they may have changed
abbrev pub IsTold : SessionState → List EditorEvent → SessionState → Type 0
IsTold s events s' = SameParts s.board s'.board ⊎ (list_any is_invalidated events ≡ true)

-- a live program that a request neither loads nor begins nor ends, for an editor that is told of changes
pub record IsWatched (a : RequestContent) (s s' : SessionState) : Type 0 where
  pub supported : s.settings.supported.invalidated ≡ true
  pub live : is_live s.settings.program ≡ true
  pub program : s'.settings.program ≡ s.settings.program
  pub loads : asks_to_load a ≡ false

-- a command that shows something, and sets no value
abbrev pub IsShown : VariablesCommand → Type 0
IsShown (variables.SetVariable reference name value format) = ⊥
IsShown (variables.SetExpression expression value format) = ⊥
IsShown other = Unit {0}

-- a request that only looks
abbrev pub IsLook : RequestContent → Type 0
IsLook (asked.Board c) = board.IsLook (kernel_command c)
IsLook (asked.Editor (editor.Evaluate expression context.Watch format)) = Unit {0}
IsLook (asked.Editor (editor.Evaluate expression context.Other format)) = Unit {0}
IsLook (asked.Editor (editor.Variables c)) = IsShown c
IsLook (asked.Editor editor.ExceptionInfo) = Unit {0}
IsLook (asked.Editor (editor.Memory (memory.ReadMemory address offset count))) = Unit {0}
IsLook (asked.Editor (editor.Memory (memory.Disassemble address offset instruction_offset count operands))) =
    Unit {0}
IsLook (asked.Editor editor.LoadedSources) = Unit {0}
IsLook (asked.Editor (editor.OnSource path (source.GotoTargets line))) = Unit {0}
IsLook (asked.Editor (editor.Breakpoints (breakpoints.DataBreakpointInfo query))) = Unit {0}
IsLook (asked.Editor (editor.OnSource path (source.BreakpointLocations first last))) = Unit {0}
IsLook other = ⊥
