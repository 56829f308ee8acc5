-- What becomes of a recording by a request that doesn't go back.
use Rattle.std.specs.Prelude.{◌≡◌, List, ◌++◌, Bool, true, false, not, Option, Some, None, option_and_then}
use Rattle.dap_messages.specs.declared.message.Message.{Message}
use Rattle.dap_requests.specs.declared.request.RequestContent.{RequestContent}
use Rattle.dap_history.specs.declared.input.Input.{Input}
use Rattle.dap_history.specs.Runs.{after_input}
use Rattle.dap_launch.specs.declared.file.FileText.{FileText}
use Rattle.dap_run.specs.declared.messages.RequestId.{RequestId}
use Rattle.dap_run.specs.Messages.{turn_messages}
use Rattle.dap_session.specs.States.{SessionState}
use Rattle.dap_session.specs.Represents.{SessionFields, RepresentsSession}
use Rattle.dap_session.specs.Requests as session
use Rattle.dap_prompt.specs.Inputs.{after_input_if}
use Rattle.dap_session.specs.Rewinds.{can_go_back}
use Rattle.dap_prompt.specs.declared.outcome.Effect.{Effect}
use Rattle.dap_prompt.specs.declared.outcome.Effect.TheVariants.{Refused, Loaded, Changed, Answered}
use Rattle.dap_prompt.specs.declared.outcome.RequestOutcome.{RequestOutcome}
use Rattle.dap_session.specs.Effects.{effect_of}
use Rattle.dap_session.specs.Laws.{SameParts}
use Rattle.dap_record.specs.declared.note.Before.{Before}
use Rattle.dap_record.specs.declared.note.Noted.{Noted}
use Rattle.dap_record.specs.Recordings.{RecordedState, kept_while, with_input_if, forgets_by}
use Rattle.dap_record.specs.Turns.{RecordedTurn, recorded_turn, forgotten_messages, count_of}
use Rattle.dap_record.specs.Represents.{RepresentsRecordingIf}

-- the session after an input, or with the same run without one, if its run can go back
abbrev pub IsAfterInput : Input → SessionState → SessionState → Type 0
IsAfterInput i before s = can_go_back s ≡ true → SameParts (after_input i before.board) s.board

abbrev pub IsAfterInputIf : Option Input → SessionState → SessionState → Type 0
IsAfterInputIf i before s = can_go_back s ≡ true → SameParts (after_input_if i before.board) s.board

-- a run begins by a request that did this, if it is there after it
abbrev pub may_begin : Effect → Bool → Bool
may_begin Refused could = false
may_begin Loaded could = true
may_begin (Changed i) could = not could
may_begin Answered could = not could

abbrev pub input_in : Effect → Option Input
input_in (Changed i) = Some i
input_in other = None

-- what is known before a request
pub record IsBefore (v : RecordedState) (before : Before) : Type 0 where
  pub could : before.could ≡ can_go_back v.session
  pub recording : RepresentsRecordingIf before.recording v.recording v.session

-- the session has answered this request
pub record IsAnswered (a : RequestContent) (found : Option FileText) (v : RecordedState) (c : RequestId)
    (outcome : RequestOutcome) (after : SessionFields) : Type 0 where
  pub messages_are : outcome.messages
      ≡ turn_messages c (session.turn a found v.session).outcome (session.turn a found v.session).events
  pub effect_is : outcome.effect ≡ effect_of a v.session (session.turn a found v.session)
  pub represents : RepresentsSession after (session.turn a found v.session).state

abbrev pub turn_noted : RequestContent → Option FileText → RecordedState → RecordedTurn
turn_noted a found v = recorded_turn a v (session.turn a found v.session)

-- what is told of it, and the recording after it
pub record NotesTurn (a : RequestContent) (found : Option FileText) (v : RecordedState) (c : RequestId)
    (noted : Noted) : Type 0 where
  pub messages : noted.messages ≡ turn_messages c (turn_noted a found v).outcome (turn_noted a found v).events
  pub recording : RepresentsRecordingIf noted.recording (turn_noted a found v).state.recording
      (session.turn a found v.session).state

-- the same for a run that didn't begin now, by the input that was made
pub record NotesInput (v : RecordedState) (s : SessionState) (i : Option Input) (messages : List Message)
    (noted : Noted) : Type 0 where
  pub messages_are : noted.messages
      ≡ messages ++ forgotten_messages (forgets_by i v.recording) (count_of v.recording)
  pub recording : RepresentsRecordingIf noted.recording
      (kept_while s (option_and_then (with_input_if i) v.recording)) s
