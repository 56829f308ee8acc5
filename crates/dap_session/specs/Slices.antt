-- A slice of the run, and the messages of a whole session.
use Rattle.std.specs.Prelude.{ℕ, List, [], ◌∷◌, ◌++◌, Bool, true, ◌||◌, Option, option_map}
use Rattle.std.specs.Prelude.{if◌then◌else◌}
use Rattle.lab_core.specs.declared.answer.SliceOutcome.{SliceOutcome}
use Rattle.lab_core.specs.declared.answer.SliceOutcome.TheVariants as outcome
use Rattle.lab_core.specs.Slices.{traffic_of, after_steps, left_by}
use Rattle.dap_messages.specs.declared.message.Message.{Message}
use Rattle.dap_requests.specs.declared.request.EditorRequest.{EditorRequest}
use Rattle.dap_run.specs.declared.messages.RequestId.{RequestId}
use Rattle.dap_run.specs.Messages.{as_messages, turn_messages}
use Rattle.lab_core.specs.Board.{Board}
use Rattle.dap_slice.specs.Counts.{points_after}
use Rattle.dap_slice.specs.SliceEnds.{slice_end_within, after_slice_within}
use Rattle.dap_run.specs.Ends.{held_at_end}
use Rattle.dap_run.specs.Slices.{SliceContext, events_to, asks_line}
use Rattle.dap_run.specs.Lives.{held_ends, ended_program}
use Rattle.dap_launch.specs.declared.file.FileText.{FileText}
use Rattle.dap_session.specs.declared.settings.SessionSettings.{SessionSettings}
use Rattle.dap_session.specs.States.{SessionState, wants_slice}
use Rattle.dap_session.specs.Turns.{Turn}
use Rattle.dap_session.specs.Requests.{turn}

-- ---- a slice

-- messages, and the session after them
pub record Told : Type 0 where
  pub messages : List Message
  pub state : SessionState

-- a run that waits isn't tried again before the next request, and the program notes its run's end
abbrev pub settings_after : SliceOutcome → SessionSettings → SessionSettings
settings_after outcome.More t = t
settings_after outcome.Waiting t = record t { waits = true }
settings_after (outcome.Stop reason) t = t
settings_after (outcome.End how) t = record t { program = option_map (ended_program t.filters how) t.program }

-- the breakpoints have the hits of its k steps
abbrev pub with_hits : ℕ → SessionState → SessionSettings
with_hits k s = record s.settings { conditional = points_after s.settings.conditional k s.board }

-- the program may have asked for a line
abbrev pub with_question : Bool → SessionSettings → SessionSettings
with_question asks t = record t { has_asked = t.has_asked || asks }

abbrev pub context_of : SessionState → SliceContext
context_of s = record {
  points = s.settings.conditional;
  held = held_ends s.settings.filters s.settings.program;
  has_asked = s.settings.has_asked;
}

abbrev pub slicing : ℕ × SliceOutcome → SessionState → Told
slicing (k, ending) s =
    let c = context_of s in
    let asks = asks_line c.has_asked k (traffic_of k s.board) in
    record {
      messages = as_messages (events_to (k, ending) c s.board);
      state = record {
        board = held_at_end c.held ending (left_by ending (after_steps k s.board));
        settings = settings_after ending (with_question asks (with_hits k s));
      };
    }

-- where a slice of at most n steps ends, and how
abbrev pub slice_end_in : ℕ → SessionState → ℕ × SliceOutcome
slice_end_in n s = slice_end_within s.settings.conditional n s.board

-- the board after it
abbrev pub after_slice_in : ℕ → SessionState → Board
after_slice_in n s = after_slice_within s.settings.conditional n s.board

-- a slice of the run, if one goes on
unfoldable pub slice_told : SessionState → Told
slice_told s = if wants_slice s then slicing (slice_end_in 4096 s) s else record { messages = []; state = s }

-- ---- a request

abbrev pub caller_of : EditorRequest → RequestId
caller_of r = record { seq = r.seq; command = r.command }

abbrev pub told_by : RequestId → Turn → List Message
told_by c t = turn_messages c t.outcome t.events

abbrev pub told_in : RequestId → Turn → Told
told_in c t = record { messages = told_by c t; state = t.state }

abbrev pub request_told : EditorRequest → Option FileText → SessionState → Told
request_told r found s = told_in (caller_of r) (turn r.asked found s)

-- ---- a session

pub data Input : Type 0 where
  -- with what was found at the path that it needs
  request : EditorRequest → Option FileText → Input
  slice : Input

abbrev pub step : Input → SessionState → Told
step (request r found) s = request_told r found s
step slice s = slice_told s

-- the messages for these inputs, in order, and the session after them
abbrev pub play_all : List Input → SessionState → Told
play_all [] s = record { messages = []; state = s }
play_all (input ∷ inputs) s =
    let first = step input s in
    let rest = play_all inputs first.state in
    record { messages = first.messages ++ rest.messages; state = rest.state }
