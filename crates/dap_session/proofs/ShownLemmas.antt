-- Commands that only show something set no value.
use Rattle.std.proofs.Common.{◌≡◌, ℕ, List, Bool, true, false, None, Result, Ok, Err, refl, ap}
use Rattle.lab_core.specs.declared.fault.EventFault.{EventFault}
use Rattle.lab_core.specs.declared.run_state.RunState.{RunState}
use Rattle.lab_core.specs.declared.run_state.RunState.TheVariants.{NoRun, Running, Stopped}
use Rattle.lab_core.specs.Board.{Board}
use Rattle.dap_messages.specs.declared.message.EditorOutcome.{EditorOutcome}
use Rattle.dap_messages.specs.declared.message.EditorVariable.{EditorVariable}
use Rattle.dap_requests.specs.declared.request.VariablesCommand.{VariablesCommand}
use Rattle.dap_requests.specs.declared.request.VariablesCommand.TheVariants as variables
use Rattle.dap_prompt.specs.declared.answer.VariablesAnswer.{VariablesAnswer}
use Rattle.dap_prompt.specs.declared.answer.VariablesAnswer.TheVariants.{Outcome}
use Rattle.dap_prompt.specs.Answers.{has_frame, scopes_if, scopes_answer, rows_answer, variables_answer}
use Rattle.dap_prompt.specs.Answers.{change_in, value_set}
use Rattle.dap_prompt.specs.Inputs.{set_input}
use Rattle.dap_session.specs.States.{SessionState}
use Rattle.dap_session.specs.Evaluations.{showing, handling_by, handling}
use Rattle.dap_session.specs.Laws.{IsShown}

-- an answer that is an outcome
abbrev pub IsOutcome : VariablesAnswer → Type 0
IsOutcome a = (o : EditorOutcome) × (a ≡ Outcome o)

scopes_if_shown : (there : Bool) (b : Board) → IsOutcome (scopes_if there b)
scopes_if_shown true b = (_, refl)
scopes_if_shown false b = (_, refl)

scopes_shown : (run : RunState) (frame : ℕ) (b : Board) → IsOutcome (scopes_answer run frame b)
scopes_shown NoRun frame b = (_, refl)
scopes_shown Running frame b = (_, refl)
scopes_shown Stopped frame b = scopes_if_shown (has_frame frame b) b

rows_shown : (rows : Result (List EditorVariable) EventFault) → IsOutcome (rows_answer rows)
rows_shown (Ok rows) = (_, refl)
rows_shown (Err fault) = (_, refl)

answer_shown : (c : VariablesCommand) (b : Board) → IsShown c → IsOutcome (variables_answer c b)
answer_shown (variables.Scopes frame) b is = scopes_shown b.run frame b
answer_shown (variables.Variables reference start count format) b is = rows_shown _
answer_shown (variables.Completions text column) b is = (_, refl)
answer_shown (variables.SetVariable reference name value format) b is = absurd is
answer_shown (variables.SetExpression expression value format) b is = absurd is

pub handled_shown : (c : VariablesCommand) (s : SessionState) → IsShown c
    → (o : EditorOutcome) × (handling c s ≡ showing o s)
handled_shown c s is =
    let shown = answer_shown c s.board is in
    (shown.0, ap (λ (a : VariablesAnswer). handling_by a s) shown.1)

pub sets_nothing : (c : VariablesCommand) (b : Board) → IsShown c → set_input (value_set c b) ≡ None
sets_nothing c b is = ap (λ (a : VariablesAnswer). set_input (change_in a)) (answer_shown c b is).1
