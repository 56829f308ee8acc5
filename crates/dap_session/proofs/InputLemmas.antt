-- What requests make of a run: their inputs, and nothing else.
use Rattle.std.proofs.Common.{◌≡◌, ◌∙◌, ℕ, ◌++◌, Bool, true, false, Option, Some, None, Result, Ok, Err}
use Rattle.std.proofs.Common.{option_map, codes, if◌then◌else◌, refl, sym, ap, subst, true≢false}
use Rattle.base_text.specs.Bytes.{Bytes, Text}
use Rattle.base_text.specs.Latin.{latin_bytes}
use Rattle.lab_views.specs.declared.view.View.{View}
use Rattle.lab_views.specs.declared.view.View.TheVariants as view
use Rattle.lab_shown.specs.declared.step.StepKind.{StepKind}
use Rattle.lab_shown.specs.declared.step.Granularity.{Granularity}
use Rattle.lab_core.specs.declared.answer.Answer.{Answer}
use Rattle.lab_core.specs.declared.answer.Answer.TheVariants as answer
use Rattle.lab_core.specs.declared.answer.End.{End}
use Rattle.lab_core.specs.declared.event.Event.TheVariants as event
use Rattle.lab_core.specs.declared.run_state.RunState.{RunState}
use Rattle.lab_core.specs.declared.run_state.RunState.TheVariants.{NoRun, Running, Stopped}
use Rattle.lab_core.specs.Board.{Board}
use Rattle.lab_core.specs.Events.{EventResult, result_of, without_run}
use Rattle.dap_answers.specs.declared.answer.Body.{Body}
use Rattle.dap_answers.specs.declared.answer.Body.TheVariants as body
use Rattle.dap_answers.specs.declared.answer.StopReason.TheVariants.{Pause as ByPause}
use Rattle.dap_answers.specs.Murmur.{cell_path}
use Rattle.dap_requests.specs.declared.request.BoardCommand.{BoardCommand}
use Rattle.dap_requests.specs.declared.request.BoardCommand.TheVariants as command
use Rattle.dap_board.specs.Bodies.{body_of}
use Rattle.dap_board.specs.Commands.{Performed, command_result, with_body, step_request}
use Rattle.dap_messages.specs.declared.message.EditorStop.TheVariants.{Board as AtBoard}
use Rattle.dap_messages.specs.declared.message.UndefinedOpcode.{UndefinedOpcode}
use Rattle.dap_messages.specs.declared.message.ValueFormat.{ValueFormat}
use Rattle.dap_requests.specs.declared.request.EditorCommand.{EditorCommand}
use Rattle.dap_requests.specs.declared.request.EditorCommand.TheVariants as editor
use Rattle.dap_requests.specs.declared.request.SourceCommand.{SourceCommand}
use Rattle.dap_requests.specs.declared.request.SourceCommand.TheVariants as source
use Rattle.dap_requests.specs.declared.request.BreakpointsCommand.{BreakpointsCommand}
use Rattle.dap_requests.specs.declared.request.BreakpointsCommand.TheVariants as breakpoints
use Rattle.dap_requests.specs.declared.request.MemoryCommand.{MemoryCommand}
use Rattle.dap_requests.specs.declared.request.MemoryCommand.TheVariants as memory
use Rattle.dap_requests.specs.declared.request.EvaluateContext.{EvaluateContext}
use Rattle.dap_requests.specs.declared.request.EvaluateContext.TheVariants as context
use Rattle.dap_requests.specs.declared.request.RequestContent.{RequestContent}
use Rattle.dap_requests.specs.declared.request.RequestContent.TheVariants as asked
use Rattle.dap_requests.specs.declared.offset.SignedOffset.{SignedOffset}
use Rattle.dap_history.specs.declared.input.Input.{Input}
use Rattle.dap_history.specs.declared.input.Input.TheVariants as input
use Rattle.dap_history.specs.Runs.{board_of, after_input}
use Rattle.dap_values.specs.declared.assignment.SetValue.{SetValue}
use Rattle.dap_requests.specs.declared.request.VariablesCommand.{VariablesCommand}
use Rattle.dap_prompt.specs.declared.answer.VariablesAnswer.{VariablesAnswer}
use Rattle.dap_prompt.specs.declared.answer.VariablesAnswer.TheVariants.{Outcome, Change}
use Rattle.dap_prompt.specs.Answers.{change_in, value_set, variables_answer}
use Rattle.dap_points.specs.Points.{has_place}
use Rattle.dap_run.specs.declared.messages.FollowUp.{FollowUp}
use Rattle.dap_run.specs.declared.messages.FollowUp.TheVariants as follow
use Rattle.dap_run.specs.Boards.{board_result}
use Rattle.dap_run.specs.Ends.{exit_code}
use Rattle.dap_values.specs.Distances.{address_at}
use Rattle.dap_launch.specs.declared.file.FileText.{FileText}
use Rattle.dap_run.specs.declared.program.Phase.{Phase}
use Rattle.dap_run.specs.declared.program.Phase.TheVariants as phase
use Rattle.dap_run.specs.declared.program.Program.{Program}
use Rattle.dap_run.specs.Lives.{in_phase, end_of, exception_of}
use Rattle.dap_session.specs.States.{SessionState}
use Rattle.dap_session.specs.Turns.{Turn, Replied, turn_of, change_follow}
use Rattle.dap_run.specs.Programs.{program_at}
use Rattle.dap_session.specs.Evaluations.{command_reply}
use Rattle.dap_prompt.specs.Prompt.{behind, byte_spelled, byte_command, command_with}
use Rattle.dap_session.specs.Evaluations.{prompting, evaluating, setting, handling_by, handling}
use Rattle.dap_prompt.specs.Inputs.{command_input, prompt_input}
use Rattle.dap_prompt.specs.Inputs.{bytes_input, set_input, input_of, after_input_if}
use Rattle.dap_session.specs.Launches.{beginning_in, beginning_where}
use Rattle.dap_session.specs.Memory.{is_stopped, writing_from, writing}
use Rattle.dap_session.specs.Targets.{going_to}
use Rattle.dap_session.specs.Requests.{board_done, finish_done, resuming_from, explaining, set_configured}
use Rattle.dap_session.specs.Requests.{resetting, terminating, on_board, on_editor, on_source}
use Rattle.dap_session.specs.Requests.{on_breakpoints, on_memory, objection, asking}
use Rattle.dap_session.specs.Requests.{asking_unless, turn}
use Rattle.dap_session.specs.Laws.{SameParts, asks_to_load, has_run, has_begun, is_begun}
use Rattle.dap_session.specs.Rewinds.{RunLasts, can_go_back}
use Rattle.std.proofs.lemmas.Bool.{and_parts}
use Rattle.dap_session.proofs.ChangeLemmas.{same, KeepsParts, kept_show, kept_dump, kept_where}
use Rattle.dap_session.proofs.ChangeLemmas.{kept_pause, kept_resume}

abbrev Makes : Option Input → SessionState → Replied → Type 0
Makes i s r = RunLasts s (turn_of r) → SameParts (after_input_if i s.board) r.state.board

either : (b : Bool) (i : Option Input) (s : SessionState) (r r' : Replied) → Makes i s r → Makes i s r'
    → Makes i s (if b then r else r')
either true i s r r' one two = one
either false i s r r' one two = two

-- ---- events

kept_made : (to_body : Answer → Body) (g : EventResult) (f : FollowUp) (s : SessionState)
    → KeepsParts s.board g → Makes None s (board_done (with_body to_body g) f s)
kept_made to_body (Ok (a, b)) f s kept = λ l. kept
kept_made to_body (Err fault) f s kept = λ l. absurd (true≢false (sym l.done))

shown_made : (v : View) (s : SessionState)
    → Makes None s (board_done (with_body body_of (result_of (event.Show v) s.board)) follow.Nothing s)
shown_made v s = kept_made body_of _ follow.Nothing s (kept_show v s.board)

event_made : (to_body : Answer → Body) (g : EventResult) (f : FollowUp) (s : SessionState) (i : Input)
    → board_of s.board g ≡ after_input i s.board → Makes (Some i) s (board_done (with_body to_body g) f s)
event_made to_body (Ok (a, b)) f s i is = λ l. subst (λ x. SameParts x b) is (same b)
event_made to_body (Err fault) f s i is = λ l. absurd (true≢false (sym l.done))

reply_made : (to_body : Answer → Body) (g : EventResult) (s : SessionState) (i : Input)
    → board_of s.board g ≡ after_input i s.board → Makes (Some i) s (command_reply (with_body to_body g) s)
reply_made to_body (Ok (a, b)) s i is = λ l. subst (λ x. SameParts x b) is (same b)
reply_made to_body (Err fault) s i is = λ l. absurd (true≢false (sym l.done))

-- ---- programs that end or begin

begun_before : (s : SessionState) → can_go_back s ≡ true → has_begun s.settings.program ≡ true
begun_before s can =
    (and_parts (has_begun s.settings.program) _ (and_parts (has_run s.board.run) _ can).1).0

runs_before : (s : SessionState) → can_go_back s ≡ true → has_run s.board.run ≡ true
runs_before s can = (and_parts (has_run s.board.run) _ can).0

over_lasts : (o : Option Program) → has_begun (option_map (in_phase phase.Over) o) ≡ true → ⊥
over_lasts None is = true≢false (sym is)
over_lasts (Some p) is = true≢false (sym is)

finish_made : (p : Performed) (code : ℕ) (s : SessionState) → Makes None s (finish_done p code s)
finish_made (Ok (b, board)) code s =
    λ l. absurd (over_lasts s.settings.program
    (begun_before (finish_done (Ok (b, board)) code s).state l.after))
finish_made (Err f) code s = λ l. absurd (true≢false (sym l.done))

continue_made : (o : Option End) (s : SessionState) → Makes None s (resuming_from o command.Continue s)
unfolding command_result
continue_made None s = kept_made (λ _. body.Continued) _ follow.Continued s (kept_resume s.board.run None
    s.board)
continue_made (Some how) s = finish_made _ (exit_code how) s

step_made : (o : Option End) (kind : StepKind) (granularity : Granularity) (s : SessionState)
    → Makes None s (resuming_from o (command.Step kind granularity) s)
unfolding command_result
step_made None kind granularity s =
    kept_made (λ _. body.Empty) _ follow.Continued s
    (kept_resume s.board.run (Some (step_request kind granularity)) s.board)
step_made (Some how) kind granularity s = finish_made _ (exit_code how) s

reset_made : (s : SessionState) → Makes None s (resetting s)
unfolding command_result
reset_made s = λ l. absurd (over_lasts s.settings.program (begun_before (resetting s).state l.after))

phase_made : (h : Phase) (p : Program) (s : SessionState) → p.phase ≡ h → s.settings.program ≡ Some p
    → Makes None s (beginning_in h p (set_configured s))
phase_made phase.Loaded p s is on =
    λ l. absurd (true≢false (sym (begun_before s l.before) ∙ (ap has_begun on ∙ ap is_begun is)))
phase_made phase.Begun p s is on = λ l. same s.board
phase_made (phase.Held how) p s is on = λ l. same s.board
phase_made phase.Over p s is on = λ l. same s.board

configured_made : (o : Option Program) (s : SessionState) → s.settings.program ≡ o
    → Makes None s (beginning_where o (set_configured s))
configured_made None s on = λ l. same s.board
configured_made (Some p) s on = phase_made p.phase p s refl on

aliases_made : (run : RunState) (b' : Board) (f : FollowUp) (s : SessionState) → s.board.run ≡ run
    → Makes None s (board_done (with_body (λ _. body.Empty) (without_run run (Ok (answer.BoardSet, b')))) f s)
aliases_made NoRun b' f s is =
    λ l. absurd (true≢false (sym (runs_before s l.before) ∙ ap has_run is))
aliases_made Running b' f s is = λ l. absurd (true≢false (sym l.done))
aliases_made Stopped b' f s is = λ l. absurd (true≢false (sym l.done))

-- ---- commands of a board

command_made : (c : BoardCommand) (s : SessionState)
    → Makes (command_input c) s (on_board c s)
unfolding command_result
command_made command.Attach s = λ l. same s.board
command_made command.Disconnect s = λ l. same s.board
command_made command.ConfigurationDone s = configured_made s.settings.program s refl
command_made command.BoardReset s = reset_made s
command_made command.Threads s = λ l. same s.board
command_made (command.StackTrace start levels) s = shown_made (view.Frames start levels) s
command_made command.Continue s = continue_made (end_of s.settings.program) s
command_made (command.Step kind granularity) s = step_made (end_of s.settings.program) kind granularity s
command_made command.Pause s =
    kept_made (λ _. body.Empty) (result_of event.Pause s.board) (follow.Stopped (AtBoard ByPause)) s
    (kept_pause s.board.is_attached s.board.run s.board)
command_made (command.Source path) s = shown_made (view.Source path) s
command_made (command.DumpCell code) s =
    kept_made (λ _. body.SourcePath (cell_path code))
    (result_of (event.Dump (cell_path code) code) s.board) follow.Nothing s
    (kept_dump (cell_path code) code s.board)
command_made command.DebugInfo s = shown_made view.Info s
command_made command.InspectVariables s = shown_made (view.Variables 1 0 0) s
command_made (command.BoardSwitches value) s =
    event_made (λ _. body.Empty) (result_of (event.Switches value) s.board) _ s (input.Switches value) refl
command_made (command.BoardPress vector) s =
    event_made (λ _. body.Empty) (result_of (event.Press vector) s.board) _ s (input.Press vector) refl
command_made (command.BoardType text) s =
    event_made (λ _. body.Empty) (result_of (event.Typed (latin_bytes text)) s.board) _ s
    (input.Typed (latin_bytes text)) refl
command_made (command.BoardAliases aliases) s = aliases_made s.board.run _ (change_follow s) s refl

-- ---- evaluations

switches_made : (o : Option ℕ) (expression : Text) (format : ValueFormat) (s : SessionState)
    → Makes (prompt_input (byte_command (λ value. command.BoardSwitches value) o)) s
    (prompting (byte_command (λ value. command.BoardSwitches value) o) expression format s)
unfolding command_result
switches_made None expression format s = λ l. same s.board
switches_made (Some n) expression format s =
    reply_made (λ _. body.Empty) (result_of (event.Switches n) s.board) s (input.Switches n) refl

press_made : (o : Option ℕ) (expression : Text) (format : ValueFormat) (s : SessionState)
    → Makes (prompt_input (byte_command (λ vector. command.BoardPress vector) o)) s
    (prompting (byte_command (λ vector. command.BoardPress vector) o) expression format s)
unfolding command_result
press_made None expression format s = λ l. same s.board
press_made (Some n) expression format s =
    reply_made (λ _. body.Empty) (result_of (event.Press n) s.board) s (input.Press n) refl

type_made : (text : Text) (s : SessionState)
    → Makes (Some (input.Typed (latin_bytes text))) s
    (command_reply (board_result (command.BoardType text) s.board) s)
unfolding command_result
type_made text s =
    reply_made (λ _. body.Empty) (result_of (event.Typed (latin_bytes text)) s.board) s
    (input.Typed (latin_bytes text)) refl

prompt_made : (switches press line : Option Text) (expression : Text)
    (format : ValueFormat) (s : SessionState)
    → Makes (prompt_input (command_with switches press line)) s
    (prompting (command_with switches press line) expression format s)
prompt_made (Some n) press line expression format s = switches_made (byte_spelled n) expression format s
prompt_made None (Some n) line expression format s = press_made (byte_spelled n) expression format s
prompt_made None None (Some line) expression format s = type_made (line ++ codes "\n") s
prompt_made None None None expression format s = λ l. same s.board

evaluated_made : (expression : Text) (c : EvaluateContext) (format : ValueFormat) (s : SessionState)
    → Makes (input_of (asked.Editor (editor.Evaluate expression c format)) s.board) s
    (evaluating expression c format s)
evaluated_made expression context.Repl format s =
    prompt_made (behind (codes "switches ") expression) (behind (codes "press ") expression)
    (behind (codes "type ") expression) expression format s
evaluated_made expression context.Watch format s = λ l. same s.board
evaluated_made expression context.Other format s = λ l. same s.board

-- ---- variables

setting_made : (r : Result SetValue Text) (s : SessionState) → Makes (set_input (Some r)) s (setting r s)
setting_made (Ok set) s = λ l. same (after_input set.input s.board)
setting_made (Err message) s = λ l. absurd (true≢false (sym l.done))

handled_by_made : (a : VariablesAnswer) (s : SessionState)
    → Makes (set_input (change_in a)) s (handling_by a s)
handled_by_made (Outcome outcome) s = λ l. same s.board
handled_by_made (Change r) s =
    either (is_stopped s.board.run) (set_input (Some r)) s _ _ (setting_made r s)
    (λ l. absurd (true≢false (sym l.done)))

handled_made : (c : VariablesCommand) (s : SessionState)
    → Makes (set_input (value_set c s.board)) s (handling c s)
handled_made c s = handled_by_made (variables_answer c s.board) s

-- ---- commands of editors

written_made : (o : Option ℕ) (bytes : Bytes) (s : SessionState)
    → Makes (bytes_input o bytes) s (writing_from o bytes s)
written_made None bytes s = λ l. absurd (true≢false (sym l.done))
written_made (Some start) bytes s = λ l. record { machine = refl; past = refl; trace = refl }

writing_made : (address : ℕ) (offset : SignedOffset) (bytes : Bytes) (s : SessionState)
    → Makes (bytes_input (address_at address offset) bytes) s (writing address offset bytes s)
writing_made address offset bytes s =
    either (is_stopped s.board.run) (bytes_input (address_at address offset) bytes) s _ _
    (written_made (address_at address offset) bytes s) (λ l. absurd (true≢false (sym l.done)))

goto_made : (target : ℕ) (s : SessionState)
    → Makes (Some (input.Registers (record s.board.machine.regs { pc = target }))) s (going_to target s)
goto_made target s =
    either (is_stopped s.board.run) (Some (input.Registers (record s.board.machine.regs {
      pc = target;
    }))) s _ _
    (λ l. record { machine = refl; past = refl; trace = refl }) (λ l. absurd (true≢false (sym l.done)))

explained_made : (o : Option UndefinedOpcode) (s : SessionState) → Makes None s (explaining o s)
explained_made None s = λ l. same s.board
explained_made (Some undefined) s = λ l. same s.board

source_made : (path : Text) (c : SourceCommand) (s : SessionState) → Makes None s (on_source path c s)
source_made path (source.SetBreakpoints lines) s =
    either (has_place path s.settings.points.lists) None s _ _
    (λ l. kept_where (program_at path s.settings.program) _ s.board) (λ l. same s.board)
source_made path (source.BreakpointLocations first last) s = λ l. same s.board
source_made path (source.GotoTargets line) s = λ l. same s.board

breakpoints_made : (c : BreakpointsCommand) (s : SessionState) → Makes None s (on_breakpoints c s)
breakpoints_made (breakpoints.SetFunctionBreakpoints functions) s =
    λ l. kept_where s.settings.program _ s.board
breakpoints_made (breakpoints.SetExceptionBreakpoints filters) s = λ l. same s.board
breakpoints_made (breakpoints.DataBreakpointInfo query) s = λ l. same s.board
breakpoints_made (breakpoints.SetDataBreakpoints on_data) s = λ l. same s.board
breakpoints_made (breakpoints.SetInstructionBreakpoints instructions) s = λ l. same s.board

memory_made : (c : MemoryCommand) (s : SessionState)
    → Makes (input_of (asked.Editor (editor.Memory c)) s.board) s (on_memory c s)
memory_made (memory.ReadMemory address offset count) s = λ l. same s.board
memory_made (memory.WriteMemory address offset bytes) s = writing_made address offset bytes s
memory_made (memory.Disassemble address offset instruction_offset count operands) s = λ l. same s.board

edit_made : (c : EditorCommand) (s : SessionState)
    → Makes (input_of (asked.Editor c) s.board) s (on_editor c s)
edit_made (editor.Initialize supported numbering) s =
    either s.settings.is_initialized None s _ _ (λ l. same s.board) (λ l. same s.board)
edit_made editor.Terminate s =
    λ l. absurd (over_lasts s.settings.program (begun_before (terminating s).state l.after))
edit_made editor.ExceptionInfo s = explained_made (exception_of s.settings.program) s
edit_made (editor.Evaluate expression c format) s = evaluated_made expression c format s
edit_made editor.LoadedSources s = λ l. same s.board
edit_made (editor.StepBack by) s = λ l. absurd (true≢false (sym l.done))
edit_made editor.ReverseContinue s = λ l. absurd (true≢false (sym l.done))
edit_made (editor.Goto target) s = goto_made target s
edit_made (editor.OnSource path c) s = source_made path c s
edit_made (editor.Breakpoints c) s = breakpoints_made c s
edit_made (editor.Memory c) s = memory_made c s
edit_made (editor.Variables c) s = handled_made c s

-- ---- all requests

abbrev MakesBy : RequestContent → SessionState → Turn → Type 0
MakesBy a s t = RunLasts s t
    → SameParts (after_input_if (input_of a s.board) s.board) t.state.board

made_asking : (a : RequestContent) (found : Option FileText) (s : SessionState) → asks_to_load a ≡ false
    → MakesBy a s (asking a found s)
made_asking (asked.Load c) found s loads = absurd (true≢false loads)
made_asking (asked.Board c) found s loads = command_made c s
made_asking (asked.Faulty f) found s loads = λ l. same s.board
made_asking (asked.Editor c) found s loads = edit_made c s

made_unless : (o : Option Text) (a : RequestContent) (found : Option FileText) (s : SessionState)
    → asks_to_load a ≡ false → MakesBy a s (asking_unless o a found s)
made_unless (Some text) a found s loads = λ l. absurd (true≢false (sym l.done))
made_unless None a found s loads = made_asking a found s loads

pub made_turn : (a : RequestContent) (found : Option FileText) (s : SessionState) → asks_to_load a ≡ false
    → MakesBy a s (turn a found s)
unfolding turn
made_turn a found s loads = λ l.
    made_unless (objection a s) a found s loads (record { before = l.before; after = l.after; done = l.done })
