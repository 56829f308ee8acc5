-- A slice of a program's run, and the messages about it.
use Rattle.std.specs.Prelude.{◌≡◌, ℕ, List, [], ◌∷◌, ◌++◌, length, Bool, false, not, ◌&&◌, ◌||◌, ◌==◌}
use Rattle.std.specs.Prelude.{Option, Some, None, codes}
use Rattle.std.specs.Prelude.{if◌then◌else◌, map, Result, IfOk}
use Rattle.std.specs.declared.alloc.AllocError.{AllocError}
use Rattle.lab_core.specs.declared.run_state.RunState.TheVariants.{Running}
use Rattle.std.specs.List.{filter_map, list_all, list_any}
use Rattle.base_text.specs.Bytes.{Bytes}
use Rattle.base_text.specs.Hexadecimal.{upper_byte, upper_word}
use Rattle.i80_base.specs.declared.ports.PortOperation.{PortOperation}
use Rattle.i80_base.specs.declared.ports.PortOperation.TheVariants.{In, Out}
use Rattle.lab_core.specs.declared.answer.SliceOutcome.{SliceOutcome}
use Rattle.lab_core.specs.declared.answer.SliceOutcome.TheVariants as outcome
use Rattle.lab_shown.specs.declared.place.PlaceChange.{PlaceChange}
use Rattle.lab_core.specs.declared.answer.Stop.{Stop}
use Rattle.lab_core.specs.declared.answer.Stop.TheVariants as stop
use Rattle.lab_core.specs.declared.answer.End.{End}
use Rattle.lab_core.specs.declared.answer.End.TheVariants as end
use Rattle.lab_core.specs.Board.{Board}
use Rattle.lab_core.specs.Slices.{traffic_of, after_steps, left_by}
use Rattle.lab_core.specs.Labs.{LabState, RepresentsBoard}
use Rattle.i80_devs.specs.Console.{written_to_console, wants_line}
use Rattle.dap_board.specs.Names.{reason_of}
use Rattle.dap_messages.specs.declared.message.EditorEvent.{EditorEvent}
use Rattle.dap_messages.specs.declared.message.EditorEvent.TheVariants as event
use Rattle.dap_messages.specs.declared.message.EditorStop.TheVariants.{Board as AtBoard}
use Rattle.dap_messages.specs.declared.message.OutputCategory.{OutputCategory}
use Rattle.dap_messages.specs.declared.message.OutputCategory.TheVariants as category
use Rattle.dap_slice.specs.declared.conditions.ConditionalBreakpoint.{ConditionalBreakpoint}
use Rattle.dap_slice.specs.declared.logs.LogLine.{LogLine}
use Rattle.dap_slice.specs.Logs.{logs_before}
use Rattle.dap_slice.specs.Counts.{points_after}
use Rattle.dap_slice.specs.SliceEnds.{slice_end_within, change_after, ids_after}
use Rattle.dap_points.specs.Kinds.{kind_of}
use Rattle.dap_requests.specs.declared.request.ExceptionFilters.{ExceptionFilters}
use Rattle.dap_run.specs.declared.slice.Slice.{Slice}
use Rattle.dap_run.specs.declared.end.EndPolicy.{EndPolicy}
use Rattle.dap_run.specs.declared.end.EndPolicy.TheVariants.{Exit, Hold}
use Rattle.dap_run.specs.Ends.{exit_code, stop_at, policy_at, held_at_end}
use Rattle.dap_run.specs.Messages.{as_messages, end_events}

-- ---- what the program writes

abbrev pub output : OutputCategory → Bytes → EditorEvent
output category bytes = event.Output category bytes None

-- there is no event without bytes
abbrev pub console_events : Bytes → List EditorEvent
console_events [] = []
console_events (byte ∷ bytes) = output category.Stdout (byte ∷ bytes) ∷ []

-- A program polls the console in vain: port 0 says that no byte waits, or port 1 gives none.
abbrev pub is_vain_read : PortOperation → Bool
is_vain_read (In port byte) = (port == 0 && byte == 2) || (port == 1 && byte == 0)
is_vain_read (Out port byte) = false

-- a whole slice does nothing else at ports
abbrev pub polls_in_vain : ℕ → List PortOperation → Bool
polls_in_vain k traffic = k == 4096 && (not (length traffic == 0) && list_all is_vain_read traffic)

-- A slice of k steps asks for a line: by port 3, or, if nothing has asked since one was typed, by polling in
-- vain.
abbrev pub asks_line : Bool → ℕ → List PortOperation → Bool
asks_line has_asked k traffic = list_any wants_line traffic || (not has_asked && polls_in_vain k traffic)

-- how it is typed
abbrev pub line_question : Bytes
line_question = codes "the program asks for a line: evaluate  type TEXT\n"

abbrev pub line_events : Bool → List EditorEvent
line_events is_asked = if is_asked then output category.Console line_question ∷ [] else []

-- ---- how the slice ends

-- the line about an undefined opcode and its address
abbrev pub undefined_line : ℕ → ℕ → Bytes
undefined_line opcode pc =
    codes "UndefinedOpcode: " ++ upper_byte opcode ++ codes " at " ++ upper_word pc ++ codes "\n"

abbrev pub exception_events : End → List EditorEvent
exception_events end.Halted = []
exception_events (end.Undefined opcode pc) = output category.Stderr (undefined_line opcode pc) ∷ []

-- the program has ended, or is stopped there
abbrev pub policy_events : EndPolicy → End → List EditorEvent
policy_events Exit e = end_events (exit_code e)
policy_events Hold e = event.Stopped (stop_at e) ∷ []

abbrev pub run_end_events : EndPolicy → End → List EditorEvent
run_end_events policy e = exception_events e ++ policy_events policy e

-- the run is stopped at these breakpoints
abbrev pub met_event : Option PlaceChange → List ℕ → EditorEvent
met_event change ids = event.StoppedAt (record { kind = kind_of change ids; ids = ids })

-- A change of a watched place is told, whatever else stopped the run there.
abbrev pub stop_event : Option PlaceChange → List ℕ → Stop → EditorEvent
stop_event (Some change) ids s = met_event (Some change) ids
stop_event None ids stop.Breakpoint = met_event None ids
stop_event None ids s = event.Stopped (AtBoard (reason_of s))

-- by the change that was seen, the breakpoints that stop the run there, and the ends at which it is held
abbrev pub outcome_events : ExceptionFilters → Option PlaceChange → List ℕ → SliceOutcome
    → List EditorEvent
outcome_events held change ids outcome.More = []
outcome_events held change ids outcome.Waiting = []
outcome_events held change ids (outcome.Stop s) = stop_event change ids s ∷ []
outcome_events held change ids (outcome.End e) = run_end_events (policy_at held e) e

-- what the program writes in a slice with these port operations, which may ask for a line, and then these
-- events
abbrev pub run_events : Bool → List PortOperation → List EditorEvent → List EditorEvent
run_events asks traffic events =
    console_events (filter_map written_to_console traffic) ++ (line_events asks ++ events)

abbrev pub log_event : LogLine → EditorEvent
log_event l = event.Log l.text (record { path = l.path; line = l.line; column = 1 })

abbrev pub log_events : List LogLine → List EditorEvent
log_events logs = map log_event logs

-- ---- the slice

-- what is known before a slice: the breakpoints with options, the ends at which the run is held, and whether
-- a line was asked for
pub record SliceContext : Type 0 where
  pub points : List ConditionalBreakpoint
  pub held : ExceptionFilters
  pub has_asked : Bool

abbrev pub slice_context : List ConditionalBreakpoint → ExceptionFilters → Bool → SliceContext
slice_context points held has_asked = record { points = points; held = held; has_asked = has_asked }

-- the events of a slice from a board that ends there and so, behind the log messages with which it begins
abbrev pub events_to : ℕ × SliceOutcome → SliceContext → Board → List EditorEvent
events_to end c b =
    let traffic = traffic_of end.0 b in
    let events = outcome_events c.held (change_after c.points end b) (ids_after c.points end b) end.1 in
    log_events (logs_before c.points end.0 b)
    ++ run_events (asks_line c.has_asked end.0 traffic) traffic events

-- what such a slice is on a board
pub record IsSliceOf (end : ℕ × SliceOutcome) (c : SliceContext) (b : Board) (s : Slice) (lab : LabState)
    : Type 0 where
  pub executed : s.executed ≡ end.0
  pub asks : s.asks_line ≡ asks_line c.has_asked end.0 (traffic_of end.0 b)
  pub messages : s.messages ≡ as_messages (events_to end c b)
  pub outcome : s.outcome ≡ end.1
  pub represents : RepresentsBoard lab (held_at_end c.held end.1 (left_by end.1 (after_steps end.0 b)))

-- so is a slice of at most n steps of each board that the lab represents, if the run goes on there
abbrev pub MakesSliceIn : SliceContext → ℕ → LabState → Result Slice AllocError → LabState → Type 0
MakesSliceIn c n old result new =
    (b : Board) → RepresentsBoard old b → b.run ≡ Running
    → IfOk result (λ slice. IsSliceOf (slice_end_within c.points n b) c b slice new)

-- and the breakpoints have its hits
abbrev pub CountsSlice : List ConditionalBreakpoint → LabState → Result Slice AllocError
    → List ConditionalBreakpoint → Type 0
CountsSlice old lab result new =
    (b : Board) → RepresentsBoard lab b → b.run ≡ Running
    → IfOk result (λ slice. new ≡ points_after old slice.executed b)
