-- A debugger's session: a board, and what the editor asked for so far.
use Rattle.std.specs.Prelude.{List, [], Bool, true, false, not, ◌&&◌, Option, Some, None, option_map}
use Rattle.lab_core.specs.declared.run_state.RunState.{RunState}
use Rattle.lab_core.specs.declared.run_state.RunState.TheVariants.{NoRun, Running, Stopped}
use Rattle.lab_core.specs.Board.{Board, opening}
use Rattle.dap_requests.specs.declared.request.ExceptionFilters.{ExceptionFilters}
use Rattle.dap_requests.specs.declared.request.SupportedEvents.{SupportedEvents}
use Rattle.dap_requests.specs.Filters.{no_filters}
use Rattle.dap_points.specs.Points.{WantedBreakpointsState, no_points}
use Rattle.dap_slice.specs.declared.conditions.ConditionalBreakpoint.{ConditionalBreakpoint}
use Rattle.dap_run.specs.declared.program.Phase.TheVariants as phase
use Rattle.dap_run.specs.declared.program.Program.{Program}
use Rattle.dap_run.specs.Lives.{in_phase, released_program}
use Rattle.dap_session.specs.declared.settings.SessionSettings.{SessionSettings}

pub record SessionState : Type 0 where
  pub board : Board
  pub settings : SessionSettings

-- an editor that understands no event beside those that each must
abbrev pub no_events : SupportedEvents
no_events = record { invalidated = false; memory = false }

-- before the first request
abbrev pub session_before_requests : SessionState
session_before_requests = record {
  board = opening;
  settings = record {
    is_initialized = false;
    is_configured = false;
    supported = no_events;
    program = None;
    points = no_points;
    conditional = [];
    filters = no_filters;
    waits = false;
    has_asked = false;
    has_ended = false;
  };
}

abbrev pub with_board : Board → SessionState → SessionState
with_board b s = record s { board = b }

abbrev pub with_program : Option Program → SessionState → SessionState
with_program p s = record s { settings = record s.settings { program = p } }

abbrev pub with_points : WantedBreakpointsState → SessionState → SessionState
with_points p s = record s { settings = record s.settings { points = p } }

abbrev pub with_conditional : List ConditionalBreakpoint → SessionState → SessionState
with_conditional points s = record s { settings = record s.settings { conditional = points } }

abbrev pub with_filters : ExceptionFilters → SessionState → SessionState
with_filters filters s = record s { settings = record s.settings { filters = filters } }

abbrev pub with_waits : Bool → SessionState → SessionState
with_waits waits s = record s { settings = record s.settings { waits = waits } }

-- A run that waits is tried again. Once a line is typed, the program hasn't asked for the next one.
abbrev pub after_answer : Bool → SessionState → SessionState
after_answer is_typed s = record s {
  settings = record s.settings { waits = false; has_asked = not is_typed && s.settings.has_asked };
}

-- ---- the program

-- the program is over, if one was launched
abbrev pub over : SessionSettings → SessionSettings
over t = record t { program = option_map (in_phase phase.Over) t.program }

abbrev pub program_over : SessionState → SessionState
program_over s = record s { settings = over s.settings }

-- where the run is held at its end the program goes on
abbrev pub program_released : SessionState → SessionState
program_released s = with_program (option_map released_program s.settings.program) s

-- a watch may be a line of the prompt
abbrev pub has_watch_commands : Option Program → Bool
has_watch_commands None = false
has_watch_commands (Some p) = p.launch.has_watch_commands

-- ---- the run

abbrev pub is_running : RunState → Bool
is_running NoRun = false
is_running Running = true
is_running Stopped = false

-- a run goes on, and doesn't wait for a button
abbrev pub wants_slice : SessionState → Bool
wants_slice s = is_running s.board.run && not s.settings.waits
