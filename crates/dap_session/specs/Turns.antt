-- What a request leads to: its response, the events behind it, and the session after it.
use Rattle.std.specs.Prelude.{List, if◌then◌else◌}
use Rattle.base_text.specs.Bytes.{Text}
use Rattle.dap_answers.specs.declared.answer.Body.TheVariants as board
use Rattle.dap_messages.specs.declared.message.EditorBody.{EditorBody}
use Rattle.dap_messages.specs.declared.message.EditorBody.TheVariants as body
use Rattle.dap_messages.specs.declared.message.EditorEvent.{EditorEvent}
use Rattle.dap_messages.specs.declared.message.EditorOutcome.{EditorOutcome}
use Rattle.dap_messages.specs.declared.message.EditorOutcome.TheVariants as outcome
use Rattle.dap_run.specs.declared.messages.FollowUp.{FollowUp}
use Rattle.dap_run.specs.declared.messages.FollowUp.TheVariants.{Nothing, Changed}
use Rattle.dap_run.specs.Messages.{events_of}
use Rattle.dap_run.specs.Lives.{is_live}
use Rattle.dap_session.specs.States.{SessionState}

pub record Turn : Type 0 where
  pub outcome : EditorOutcome
  pub events : List EditorEvent
  pub state : SessionState

-- for most requests: `follow` says which events come behind the response
pub record Replied : Type 0 where
  pub outcome : EditorOutcome
  pub follow : FollowUp
  pub state : SessionState

abbrev pub turn_of : Replied → Turn
turn_of r = record { outcome = r.outcome; events = events_of r.follow; state = r.state }

-- what follows a change by hand, of which only a live program's editor is told
abbrev pub change_follow : SessionState → FollowUp
change_follow s = if is_live s.settings.program then Changed s.settings.supported else Nothing

abbrev pub refusing : Text → SessionState → Replied
refusing text s = record { outcome = outcome.Refused text; follow = Nothing; state = s }

abbrev pub succeeding : EditorBody → FollowUp → SessionState → Replied
succeeding body follow s = record { outcome = outcome.Success body; follow = follow; state = s }

-- a success with an empty body
abbrev pub accepting : FollowUp → SessionState → Replied
accepting follow s = succeeding (body.Board board.Empty) follow s
