-- Evaluations, and variables and their changes (Debug Adapter Protocol, `evaluate`, `scopes`, `variables`,
-- `setVariable`, `setExpression` and `completions`).
use Rattle.std.specs.Prelude.{Result, Ok, Err, codes, if◌then◌else◌}
use Rattle.base_text.specs.Bytes.{Text}
use Rattle.dap_board.specs.Commands.{Performed}
use Rattle.dap_run.specs.Boards.{board_result}
use Rattle.dap_requests.specs.declared.request.EvaluateContext.{EvaluateContext}
use Rattle.dap_requests.specs.declared.request.EvaluateContext.TheVariants.{Repl, Watch, Other}
use Rattle.dap_requests.specs.declared.request.VariablesCommand.{VariablesCommand}
use Rattle.dap_history.specs.Runs.{after_input}
use Rattle.dap_values.specs.declared.assignment.SetValue.{SetValue}
use Rattle.dap_messages.specs.declared.message.ValueFormat.{ValueFormat}
use Rattle.dap_messages.specs.declared.message.EditorBody.TheVariants.{Evaluation, Value}
use Rattle.dap_messages.specs.declared.message.EditorOutcome.{EditorOutcome}
use Rattle.dap_prompt.specs.declared.answer.VariablesAnswer.{VariablesAnswer}
use Rattle.dap_prompt.specs.declared.answer.VariablesAnswer.TheVariants.{Outcome, Change}
use Rattle.dap_prompt.specs.Answers.{evaluation, prompt_evaluation, variables_answer}
use Rattle.dap_prompt.specs.Answers.{done_value}
use Rattle.lab_core.specs.declared.fault.EventFault.TheVariants.{NotStopped}
use Rattle.dap_run.specs.declared.messages.FollowUp.TheVariants.{Nothing}
use Rattle.dap_run.specs.Refusals.{board_refusal}
use Rattle.dap_prompt.specs.Prompt.{prompt_command}
use Rattle.dap_prompt.specs.declared.prompt.PromptCommand.{PromptCommand}
use Rattle.dap_prompt.specs.declared.prompt.PromptCommand.TheVariants as prompt
use Rattle.dap_session.specs.States.{SessionState, with_board}
use Rattle.dap_session.specs.Memory.{is_stopped}
use Rattle.dap_session.specs.Turns.{Replied, change_follow, refusing, succeeding}

-- ---- lines of the prompt

-- the reply to a command of the prompt that the board performed
abbrev pub command_reply : Performed → SessionState → Replied
command_reply (Ok (body, b)) s = succeeding (Evaluation done_value) (change_follow s) (with_board b s)
command_reply (Err fault) s = refusing (board_refusal fault) s

-- ---- expressions

-- a look, after which all is as it was
abbrev pub showing : EditorOutcome → SessionState → Replied
showing outcome s = record { outcome = outcome; follow = Nothing; state = s }

abbrev pub looking : Text → ValueFormat → SessionState → Replied
looking expression format s = showing (evaluation s.board expression format) s

-- the same for a line of the prompt
abbrev pub looking_at_prompt : Text → ValueFormat → SessionState → Replied
looking_at_prompt line format s = showing (prompt_evaluation s.board line format) s

-- ---- both

abbrev pub prompting : PromptCommand → Text → ValueFormat → SessionState → Replied
prompting (prompt.Board c) expression format s = command_reply (board_result c s.board) s
prompting prompt.MissingByte expression format s = refusing (codes "a number from 0 to 255 must follow") s
prompting prompt.Evaluate expression format s = looking_at_prompt expression format s

-- only what is typed at the prompt may be a command
abbrev pub evaluating : Text → EvaluateContext → ValueFormat → SessionState → Replied
evaluating expression Repl format s = prompting (prompt_command expression) expression format s
evaluating expression Watch format s = looking expression format s
evaluating expression Other format s = looking expression format s

-- ---- variables

-- a value is set, or it can't be
abbrev pub setting : Result SetValue Text → SessionState → Replied
setting (Ok set) s =
    succeeding (Value set.shown) (change_follow s) (with_board (after_input set.input s.board) s)
setting (Err message) s = refusing message s

-- only while a run is stopped
abbrev pub setting_stopped : Result SetValue Text → SessionState → Replied
setting_stopped r s = if is_stopped s.board.run then setting r s else refusing (board_refusal NotStopped) s

abbrev pub handling_by : VariablesAnswer → SessionState → Replied
handling_by (Outcome outcome) s = showing outcome s
handling_by (Change r) s = setting_stopped r s

-- a value is set, or something is shown
abbrev pub handling : VariablesCommand → SessionState → Replied
handling c s = handling_by (variables_answer c s.board) s
