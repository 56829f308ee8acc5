-- What a request leads to.
use Rattle.std.specs.Prelude.{ℕ, List, [], ◌∷◌, ◌++◌, Bool, Option, Some, None, codes, decimal, if◌then◌else◌}
use Rattle.base_text.specs.Bytes.{Bytes, Text}
use Rattle.dap_answers.specs.declared.answer.Body.TheVariants.{Empty}
use Rattle.dap_answers.specs.declared.answer.StopReason.TheVariants.{Pause as ByPause}
use Rattle.dap_messages.specs.declared.message.EditorBody.TheVariants as body
use Rattle.dap_messages.specs.declared.message.EditorStop.TheVariants.{Board as AtBoard}
use Rattle.dap_messages.specs.declared.message.EditorEvent.{EditorEvent}
use Rattle.dap_messages.specs.declared.message.EditorEvent.TheVariants as event
use Rattle.dap_messages.specs.declared.message.EditorOutcome.{EditorOutcome}
use Rattle.dap_messages.specs.declared.message.OutputCategory.TheVariants.{Console}
use Rattle.dap_requests.specs.declared.request.RequestContent.{RequestContent}
use Rattle.dap_search.specs.declared.goal.Goal.{Goal}
use Rattle.dap_launch.specs.declared.file.FileText.{FileText}
use Rattle.dap_run.specs.declared.messages.FollowUp.TheVariants.{Stopped}
use Rattle.dap_run.specs.Messages.{events_of, as_messages}
use Rattle.dap_messages.specs.declared.message.Message.{Message}
use Rattle.dap_session.specs.States.{SessionState}
use Rattle.dap_session.specs.Turns.{Turn, refusing, succeeding}
use Rattle.dap_session.specs.Requests as session
use Rattle.dap_record.specs.declared.back.Back.{Back}
use Rattle.dap_record.specs.Recordings.{Recording, RecordedState, recording_after, input_made, forgets_by}
use Rattle.dap_record.specs.Backward.{RecordedReply, back_of, going_back}
use Rattle.dap_requests.specs.Traits.{mid_search}
use Rattle.dap_requests.specs.declared.traits.MidSearch.{MidSearch}
use Rattle.dap_requests.specs.declared.traits.MidSearch.TheVariants as mid

pub record RecordedTurn : Type 0 where
  pub outcome : EditorOutcome
  pub events : List EditorEvent
  pub state : RecordedState

-- ---- a request that doesn't go back

abbrev pub forgotten_line : ℕ → Bytes
forgotten_line count = codes "what came after step " ++ (decimal count ++ codes " is forgotten\n")

abbrev pub count_of : Option Recording → ℕ
count_of None = 0
count_of (Some r) = r.count

abbrev pub forgotten_events : Bool → ℕ → List EditorEvent
forgotten_events forgets count =
    if forgets then event.Output Console (forgotten_line count) None ∷ [] else []

abbrev pub forgotten_messages : Bool → ℕ → List Message
forgotten_messages forgets count = as_messages (forgotten_events forgets count)

abbrev pub recorded_turn : RequestContent → RecordedState → Turn → RecordedTurn
recorded_turn a v t =
    let forgets = forgets_by (input_made a v.session t) v.recording in
    record {
      outcome = t.outcome;
      events = t.events ++ forgotten_events forgets (count_of v.recording);
      state =
          record {
            session = t.state;
            recording = recording_after a v.session t v.recording;
            search = None;
          };
    }

-- ---- requests while no search goes on

abbrev pub turn_of : RecordedReply → RecordedTurn
turn_of r = record {
  outcome = r.reply.outcome;
  events = events_of r.reply.follow;
  state = record { session = r.reply.state; recording = r.recording; search = r.search };
}

-- before `initialize` nothing goes back
abbrev pub back_in : RequestContent → SessionState → Option Back
back_in a s = if s.settings.is_initialized then back_of a else None

abbrev pub turn_by : Option Back → RequestContent → Option FileText → RecordedState → RecordedTurn
turn_by None a found v = recorded_turn a v (session.turn a found v.session)
turn_by (Some c) a found v = turn_of (going_back c v)

-- ---- while a search goes on

-- the run stays where it was
abbrev pub pausing : RecordedState → RecordedReply
pausing v = record {
  reply = succeeding (body.Board Empty) (Stopped (AtBoard ByPause)) v.session;
  recording = v.recording;
  search = None;
}

abbrev pub mid_search_text : Text
mid_search_text = codes "the run is going back: pause it first"

-- the search goes on
abbrev pub refusing_now : RecordedState → RecordedReply
refusing_now v = record {
  reply = refusing mid_search_text v.session;
  recording = v.recording;
  search = v.search;
}

abbrev pub looking : RecordedState → Turn → RecordedTurn
looking v t = record { outcome = t.outcome; events = t.events; state = record v { session = t.state } }

abbrev pub turn_searching : MidSearch → RequestContent → Option FileText → RecordedState → RecordedTurn
turn_searching mid.Look a found v = looking v (session.turn a found v.session)
turn_searching mid.Pause a found v = turn_of (pausing v)
turn_searching mid.End a found v = recorded_turn a v (session.turn a found v.session)
turn_searching mid.Other a found v = turn_of (refusing_now v)

-- ---- all requests

abbrev pub turn_in : Option Goal → RequestContent → Option FileText → RecordedState → RecordedTurn
turn_in None a found v = turn_by (back_in a v.session) a found v
turn_in (Some goal) a found v = turn_searching (mid_search a) a found v

-- a request; `found` is what was found at the path that it needs
unfoldable pub turn : RequestContent → Option FileText → RecordedState → RecordedTurn
turn a found v = turn_in v.search a found v
