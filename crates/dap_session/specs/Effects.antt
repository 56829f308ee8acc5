-- What is told of a request, and what it did.
use Rattle.std.specs.Prelude.{List, Option, if◌then◌else◌}
use Rattle.dap_launch.specs.declared.file.FileText.{FileText}
use Rattle.dap_messages.specs.declared.message.Message.{Message}
use Rattle.dap_requests.specs.declared.request.EditorRequest.{EditorRequest}
use Rattle.dap_requests.specs.declared.request.RequestContent.{RequestContent}
use Rattle.dap_run.specs.declared.messages.RequestId.{RequestId}
use Rattle.dap_prompt.specs.declared.outcome.Effect.{Effect}
use Rattle.dap_prompt.specs.declared.outcome.Effect.TheVariants.{Refused}
use Rattle.dap_prompt.specs.Effects.{effect_done}
use Rattle.dap_prompt.specs.Inputs.{is_success}
use Rattle.dap_session.specs.States.{SessionState}
use Rattle.dap_session.specs.Turns.{Turn}
use Rattle.dap_session.specs.Requests.{turn}
use Rattle.dap_session.specs.Slices.{caller_of, told_by}

-- a request that was refused did nothing
abbrev pub effect_of : RequestContent → SessionState → Turn → Effect
effect_of a s t = if is_success t.outcome then effect_done a s.board else Refused

pub record ToldOutcome : Type 0 where
  pub messages : List Message
  pub effect : Effect
  pub state : SessionState

-- of a turn that does this if it is carried out
abbrev pub outcome_told : RequestId → Turn → Effect → ToldOutcome
outcome_told c t done = record {
  messages = told_by c t;
  effect = if is_success t.outcome then done else Refused;
  state = t.state;
}

abbrev pub request_outcome : EditorRequest → Option FileText → SessionState → ToldOutcome
request_outcome r found s = outcome_told (caller_of r) (turn r.asked found s) (effect_done r.asked s.board)
