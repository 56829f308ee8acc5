-- What a request does to a run.
use Rattle.std.specs.Prelude.{Option, Some, None, if◌then◌else◌}
use Rattle.lab_core.specs.Board.{Board}
use Rattle.dap_history.specs.declared.input.Input.{Input}
use Rattle.dap_requests.specs.declared.request.RequestContent.{RequestContent}
use Rattle.dap_requests.specs.declared.request.RequestContent.TheVariants.{Load}
use Rattle.dap_prompt.specs.declared.outcome.Effect.{Effect}
use Rattle.dap_prompt.specs.declared.outcome.Effect.TheVariants.{Refused, Loaded, Changed, Answered}
use Rattle.dap_messages.specs.declared.message.EditorOutcome.{EditorOutcome}
use Rattle.dap_prompt.specs.Inputs.{input_of, is_success}

abbrev pub effect_by : Option Input → Effect
effect_by None = Answered
effect_by (Some i) = Changed i

-- one that is refused does nothing
abbrev pub effect_with : EditorOutcome → Option Input → Effect
effect_with o i = if is_success o then effect_by i else Refused

-- of one that is carried out
abbrev pub effect_done : RequestContent → Board → Effect
effect_done (Load c) b = Loaded
effect_done other b = effect_by (input_of other b)
