-- A slice of the run, and the messages of a whole session.
use Rattle.std.specs.Prelude.{ℕ, ◌+◌, ◌-◌, List, [], ◌∷◌, ◌++◌, min, max, Bool, true, false, not, Option}
use Rattle.std.specs.Prelude.{Some}
use Rattle.std.specs.Prelude.{None, nat_lt, if◌then◌else◌, is_some, ◌||◌}
use Rattle.std.specs.List.{filter}
use Rattle.lab_core.specs.declared.answer.SliceOutcome.{SliceOutcome}
use Rattle.dap_session.specs.Slices.{slice_end_in}
use Rattle.dap_messages.specs.declared.message.EditorEvent.TheVariants as event
use Rattle.dap_messages.specs.declared.message.Message.{Message}
use Rattle.dap_messages.specs.declared.message.Message.TheVariants as message
use Rattle.dap_requests.specs.declared.request.EditorRequest.{EditorRequest}
use Rattle.dap_requests.specs.declared.request.RequestContent.{RequestContent}
use Rattle.dap_history.specs.declared.input.Recorded.{Recorded}
use Rattle.dap_search.specs.declared.goal.Goal.{Goal}
use Rattle.dap_history.specs.Logs.{up_to}
use Rattle.dap_launch.specs.declared.file.FileText.{FileText}
use Rattle.dap_run.specs.declared.messages.RequestId.{RequestId}
use Rattle.dap_run.specs.Messages.{turn_messages, as_messages}
use Rattle.dap_prompt.specs.Inputs.{as_meant}
use Rattle.dap_session.specs.States.{SessionState, with_board, wants_slice, has_watch_commands}
use Rattle.dap_session.specs.Rewinds.{after_search}
use Rattle.dap_session.specs.Slices as session
use Rattle.dap_session.specs.Slices.{slicing, caller_of}
use Rattle.dap_record.specs.Recordings.{Recording, RecordedState, inputs_ahead, after_inputs, is_behind}
use Rattle.dap_record.specs.Recordings.{kept_while}
use Rattle.dap_record.specs.Backward.{found_by, found_event}
use Rattle.dap_record.specs.Turns.{RecordedTurn, turn}

-- messages, and the session after them
pub record RecordedTold : Type 0 where
  pub messages : List Message
  pub state : RecordedState

-- ---- a slice

-- the steps to a count that lies ahead
abbrev pub steps_to : ℕ → ℕ → ℕ
steps_to now goal = if nat_lt now goal then goal - now else 4096

-- the steps to the next of these inputs
abbrev pub steps_to_input : ℕ → List Recorded → ℕ
steps_to_input now [] = 4096
steps_to_input now (r ∷ rs) = steps_to now r.count

-- A slice goes no farther than to the next input that lies ahead, or to the first step that is new.
abbrev pub slice_limit : Recording → ℕ
slice_limit r = min 4096 (min (steps_to r.count r.told) (steps_to_input r.count (inputs_ahead r)))

abbrev pub is_output : Message → Bool
is_output (message.Event (event.Output category bytes place)) = true
is_output other = false

-- output isn't told twice
abbrev pub new_messages : Bool → List Message → List Message
new_messages true messages = filter (λ m. not (is_output m)) messages
new_messages false messages = messages

abbrev pub steps_on : ℕ → Recording → Recording
steps_on k r = record r { count = r.count + k; told = max r.told (r.count + k) }

-- the session after so many steps, where the inputs that came then are made again
abbrev pub with_inputs_due : ℕ → Recording → SessionState → SessionState
with_inputs_due k r s = with_board (after_inputs (up_to (r.count + k) (inputs_ahead r)) s.board) s

abbrev pub recorded_slice : ℕ × SliceOutcome → Recording → SessionState → RecordedTold
recorded_slice p r s =
    let t = slicing p s in
    let after = with_inputs_due p.0 r t.state in
    record {
      messages = new_messages (is_behind r) t.messages;
      state =
          record {
            session = after;
            recording = kept_while after (Some (steps_on p.0 r));
            search = None;
          };
    }

abbrev pub slice_of : Option Recording → SessionState → RecordedTold
slice_of None s =
    let t = session.slice_told s in
    record {
      messages = t.messages;
      state = record { session = t.state; recording = None; search = None };
    }
slice_of (Some r) s = recorded_slice (slice_end_in (slice_limit r) s) r s

abbrev pub run_told : RecordedState → RecordedTold
run_told v =
    if wants_slice v.session then slice_of v.recording v.session else record { messages = []; state = v }

-- ---- a part of a search

-- the run is put to where the search leads
abbrev pub found_from : Recording → Goal → SessionState → RecordedTold
found_from r goal s =
    let count = found_by goal r s in
    let there = after_search r.start r.log r.count count s in
    record {
      messages = as_messages (found_event goal there ∷ []);
      state =
          record {
            session = there;
            recording = Some (record r { count = count });
            search = None;
          };
    }

abbrev pub finding : Option Recording → Goal → RecordedState → RecordedTold
finding None goal v = record { messages = []; state = v }
finding (Some r) goal v = found_from r goal v.session

abbrev pub search_told : Bool → Goal → RecordedState → RecordedTold
search_told true goal v = finding v.recording goal v
search_told false goal v = record { messages = []; state = v }

abbrev pub slice_in : Option Goal → Bool → RecordedState → RecordedTold
slice_in None finds v = run_told v
slice_in (Some goal) finds v = search_told finds goal v

-- A slice of the run, if one goes on, or a part of a search. How many parts a search takes isn't said:
-- `finds`
-- is whether it comes to its end in this one.
unfoldable pub slice_told : Bool → RecordedState → RecordedTold
slice_told finds v = slice_in v.search finds v

-- whether there is something to do
abbrev pub goes_on : RecordedState → Bool
goes_on v = is_some v.search || wants_slice v.session

-- ---- a request

abbrev pub told_in : RequestId → RecordedTurn → RecordedTold
told_in c t = record { messages = turn_messages c t.outcome t.events; state = t.state }

-- what a request asks for, where a watch may be a line of the prompt
abbrev pub meant_by : EditorRequest → RecordedState → RequestContent
meant_by r v = as_meant (has_watch_commands v.session.settings.program) r.asked

abbrev pub request_told : EditorRequest → Option FileText → RecordedState → RecordedTold
request_told r found v = told_in (caller_of r) (turn (meant_by r v) found v)

-- ---- a session

pub data Input : Type 0 where
  -- with what was found at the path that it needs
  request : EditorRequest → Option FileText → Input
  -- with whether a search comes to its end in it
  slice : Bool → Input

abbrev pub step : Input → RecordedState → RecordedTold
step (request r found) v = request_told r found v
step (slice finds) v = slice_told finds v

-- the messages for these inputs, in order, and the session after them
abbrev pub play_all : List Input → RecordedState → RecordedTold
play_all [] v = record { messages = []; state = v }
play_all (input ∷ inputs) v =
    let first = step input v in
    let rest = play_all inputs first.state in
    record { messages = first.messages ++ rest.messages; state = rest.state }
