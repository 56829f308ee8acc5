-- A session whose run is recorded: the board at which it began, and its inputs.
use Rattle.std.specs.Prelude.{ℕ, ◌+◌, List, [], ◌∷◌, ◌++◌, Bool, false, not, ◌&&◌, ◌||◌, Option, Some}
use Rattle.std.specs.Prelude.{None, nat_lt, option_and_then, if◌then◌else◌}
use Rattle.std.specs.List.{fold}
use Rattle.lab_core.specs.Board.{Board}
use Rattle.dap_requests.specs.declared.request.RequestContent.{RequestContent}
use Rattle.dap_search.specs.declared.goal.Goal.{Goal}
use Rattle.dap_history.specs.declared.input.Input.{Input}
use Rattle.dap_history.specs.declared.input.Recorded.{Recorded}
use Rattle.dap_history.specs.Logs.{up_to, later_than, size_of_input, log_size}
use Rattle.dap_history.specs.Runs.{after_input}
use Rattle.dap_session.specs.States.{SessionState, session_before_requests}
use Rattle.dap_session.specs.Turns.{Turn}
use Rattle.dap_prompt.specs.Inputs.{input_of, is_success}
use Rattle.dap_session.specs.Rewinds.{can_go_back}
use Rattle.dap_session.specs.Laws.{asks_to_load}

pub record Recording : Type 0 where
  -- the board at which the run began
  pub start : Board
  -- its inputs, each with the count of steps after which it came
  pub log : List Recorded
  -- the number of steps that it has made now
  pub count : ℕ
  -- the greatest number of steps whose output was told
  pub told : ℕ

pub record RecordedState : Type 0 where
  pub session : SessionState
  -- none if no run can go back
  pub recording : Option Recording
  -- what a search backward is for, while one goes on
  pub search : Option Goal

-- before the first request
abbrev pub recorded_before_requests : RecordedState
recorded_before_requests = record { session = session_before_requests; recording = None; search = None }

-- of a run that begins on this board
abbrev pub new_recording : Board → Recording
new_recording b = record { start = b; log = []; count = 0; told = 0 }

-- it is kept while the run can go back
abbrev pub kept_while : SessionState → Option Recording → Option Recording
kept_while s recording = if can_go_back s then recording else None

-- ---- what lies ahead of a run that went back

-- the run makes steps that it made before
abbrev pub is_behind : Recording → Bool
is_behind r = nat_lt r.count r.told

abbrev pub inputs_ahead : Recording → List Recorded
inputs_ahead r = later_than r.count r.log

-- inputs are made, in order
abbrev pub after_inputs : List Recorded → Board → Board
after_inputs inputs b = fold (λ b r. after_input r.input b) b inputs

-- ---- inputs

-- the log has reached its limit
abbrev pub is_full : Input → List Recorded → Bool
is_full i log = nat_lt 4194304 (log_size log + size_of_input i)

-- An input that comes now. What lay ahead is forgotten; if the log is full, so is the run.
abbrev pub with_input_now : Input → Recording → Option Recording
with_input_now i r =
    let before = up_to r.count r.log in
    if is_full i before then None
    else Some (record r { log = before ++ record { count = r.count; input = i } ∷ []; told = r.count })

abbrev pub with_input_if : Option Input → Recording → Option Recording
with_input_if None r = Some r
with_input_if (Some i) r = with_input_now i r

-- ---- requests

-- a run begins by this request
abbrev pub begins : RequestContent → SessionState → Turn → Bool
begins a s t = is_success t.outcome && (asks_to_load a || not (can_go_back s))

-- what a request that is refused changes by hand is nothing
abbrev pub input_made : RequestContent → SessionState → Turn → Option Input
input_made a s t = if is_success t.outcome then input_of a s.board else None

-- the recording after a request
abbrev pub recording_after : RequestContent → SessionState → Turn → Option Recording → Option Recording
recording_after a s t recording = kept_while t.state
    (if begins a s t then Some (new_recording t.state.board)
    else option_and_then (with_input_if (input_made a s t)) recording)

-- something that lay ahead is forgotten
abbrev pub forgets_by : Option Input → Option Recording → Bool
forgets_by None recording = false
forgets_by i None = false
forgets_by (Some i) (Some r) = is_behind r
