-- What a request that begins no program tells of stops and of ends.
use Rattle.std.proofs.Common.{◌≡◌, ◌∙◌, ◌-◌, ℕ, List, ◌++◌, Bool, true, false, Option, Some, None, Result, Ok}
use Rattle.std.proofs.Common.{Err, not, option_map}
use Rattle.std.proofs.Common.{codes, take, if◌then◌else◌, refl, sym, ap, subst}
use Rattle.base_text.specs.Bytes.{Bytes, Text}
use Rattle.base_text.specs.Latin.{latin_bytes}
use Rattle.lab_views.specs.declared.view.View.{View}
use Rattle.lab_core.specs.declared.answer.Answer.{Answer}
use Rattle.lab_core.specs.declared.answer.Answer.TheVariants as answer
use Rattle.lab_core.specs.declared.event.Event.TheVariants as event
use Rattle.lab_core.specs.declared.event.StepRequest.{StepRequest}
use Rattle.lab_core.specs.declared.run_state.RunState.{RunState}
use Rattle.lab_core.specs.declared.run_state.RunState.TheVariants.{NoRun, Running, Stopped}
use Rattle.lab_core.specs.Board.{Board}
use Rattle.lab_core.specs.Events.{EventResult, result_of, while_stopped, while_running, while_attached}
use Rattle.lab_core.specs.Events.{going_on}
use Rattle.lab_core.specs.Events.{after_stop as board_stopped}
use Rattle.dap_answers.specs.declared.answer.Body.{Body}
use Rattle.dap_answers.specs.declared.answer.Body.TheVariants as body
use Rattle.dap_answers.specs.declared.answer.StopReason.TheVariants.{Pause as ByPause}
use Rattle.dap_requests.specs.declared.request.BoardCommand.TheVariants as command
use Rattle.dap_board.specs.Bodies.{body_of}
use Rattle.dap_board.specs.Commands.{command_result, with_body}
use Rattle.dap_messages.specs.declared.message.EditorStop.TheVariants.{Board as AtBoard, Goto}
use Rattle.dap_messages.specs.declared.message.ValueFormat.{ValueFormat}
use Rattle.dap_requests.specs.declared.request.LineBreakpoint.{LineBreakpoint}
use Rattle.dap_requests.specs.declared.request.FunctionBreakpoint.{FunctionBreakpoint}
use Rattle.dap_requests.specs.declared.request.EvaluateContext.{EvaluateContext}
use Rattle.dap_requests.specs.declared.request.EvaluateContext.TheVariants as context
use Rattle.dap_requests.specs.declared.offset.SignedOffset.{SignedOffset}
use Rattle.dap_values.specs.declared.assignment.SetValue.{SetValue}
use Rattle.dap_requests.specs.declared.request.VariablesCommand.{VariablesCommand}
use Rattle.dap_history.specs.Runs.{after_input}
use Rattle.dap_prompt.specs.declared.answer.VariablesAnswer.{VariablesAnswer}
use Rattle.dap_prompt.specs.declared.answer.VariablesAnswer.TheVariants.{Outcome, Change}
use Rattle.dap_prompt.specs.Answers.{variables_answer}
use Rattle.dap_points.specs.Points.{has_place}
use Rattle.dap_run.specs.declared.messages.FollowUp.TheVariants as follow
use Rattle.dap_run.specs.Boards.{after, after_goto, board_result}
use Rattle.dap_values.specs.Distances.{address_at}
use Rattle.dap_run.specs.Refusals.{board_refusal}
use Rattle.lab_core.specs.declared.fault.EventFault.TheVariants.{NotStopped}
use Rattle.lab_core.specs.Changes.{after_write}
use Rattle.dap_run.specs.declared.program.Phase.{Phase}
use Rattle.dap_run.specs.declared.program.Phase.TheVariants as phase
use Rattle.dap_run.specs.declared.program.Program.{Program}
use Rattle.dap_run.specs.Lives.{is_over, is_live, released_phase, released_program}
use Rattle.dap_messages.specs.declared.message.EditorEvent.TheVariants as event_told
use Rattle.dap_run.specs.Messages.{as_messages, event_if, change_events, events_of}
use Rattle.dap_session.specs.States.{SessionState, with_board, program_over, program_released}
use Rattle.dap_session.specs.Turns.{Replied, change_follow, refusing, accepting}
use Rattle.dap_run.specs.Programs.{program_at}
use Rattle.dap_session.specs.Breakpoints.{setting_lines, setting_functions}
use Rattle.dap_session.specs.Evaluations.{command_reply}
use Rattle.dap_prompt.specs.Prompt.{behind, byte_spelled, byte_command, command_with}
use Rattle.dap_session.specs.Evaluations.{prompting, evaluating, setting, handling_by, handling}
use Rattle.dap_session.specs.Memory.{is_stopped, writing_from, writing}
use Rattle.dap_session.specs.Targets.{going_to}
use Rattle.dap_session.specs.Requests.{board_done, finish_done, resetting, terminating}
use Rattle.dap_session.specs.Laws.{has_run, shown_for}
use Rattle.dap_laws.proofs.BoardLemmas.{KeepsRun, kept_press, kept_show, kept_where}
use Rattle.dap_laws.proofs.BoardLemmas.{kept_written, kept_input, run_interrupted, still_attached}
use Rattle.dap_laws.proofs.RunLemmas.{seen, seen_board, IsReached, both, lively, over_seen, Follows, Goes}
use Rattle.dap_laws.proofs.RunLemmas.{still, PhaseFits, ProgramFits, none_living}
use Rattle.dap_laws.proofs.RunLemmas.{IsCalm, calm_still}
use Rattle.dap_laws.proofs.RunLemmas.{runs_on, goes_ended, goes_over}

abbrev pub GoesBy : SessionState → Replied → Type 0
GoesBy s r = Goes s (events_of r.follow) r.state

-- ---- what leaves the run as it was

pub goes_either : (b : Bool) (s : SessionState) (r r' : Replied) → GoesBy s r → GoesBy s r'
    → GoesBy s (if b then r else r')
goes_either true s r r' one two = one
goes_either false s r r' one two = two

calm_changes : (x y : Bool) → IsCalm (event_if x event_told.Invalidated ++ event_if y event_told.Memory)
calm_changes true true = record { stops = λ d. refl; ends = refl }
calm_changes true false = record { stops = λ d. refl; ends = refl }
calm_changes false true = record { stops = λ d. refl; ends = refl }
calm_changes false false = record { stops = λ d. refl; ends = refl }

still_if : (live : Bool) (s s' : SessionState) → is_live s.settings.program ≡ live → IsReached (seen s)
    → seen s' ≡ seen s
    → Goes s (events_of (if live then follow.Changed s.settings.supported else follow.Nothing)) s'
still_if true s s' live reached is =
    let supported = s.settings.supported in
    let es = change_events supported in
    record {
      follows =
          subst (λ w. Follows (seen s) (as_messages es) w) (sym is)
          (calm_still es (seen s) reached (calm_changes supported.invalidated supported.memory));
      quiet = λ dead. both (is_live s.settings.program) live dead;
    }
still_if false s s' dead reached is = still s s' reached is

-- what is changed by hand leaves the run as it was
changed : (s s' : SessionState) → IsReached (seen s) → seen s' ≡ seen s
    → Goes s (events_of (change_follow s)) s'
changed s s' reached is = still_if (is_live s.settings.program) s s' refl reached is

pub goes_changed : (to_body : Answer → Body) (g : EventResult) (s : SessionState) → IsReached (seen s)
    → KeepsRun s.board g → GoesBy s (board_done (with_body to_body g) (change_follow s) s)
goes_changed to_body (Ok (a, b)) s reached kept = changed s (with_board b s) reached (seen_board b s kept)
goes_changed to_body (Err f) s reached kept = still s s reached refl

pub goes_board : (to_body : Answer → Body) (g : EventResult) (s : SessionState) → IsReached (seen s)
    → KeepsRun s.board g → GoesBy s (board_done (with_body to_body g) follow.Nothing s)
goes_board to_body (Ok (a, b)) s reached kept = still s (with_board b s) reached (seen_board b s kept)
goes_board to_body (Err f) s reached kept = still s s reached refl

pub goes_shown : (v : View) (s : SessionState) → IsReached (seen s)
    → GoesBy s (board_done (with_body body_of (result_of (event.Show v) s.board)) follow.Nothing s)
goes_shown v s reached = goes_board body_of (result_of (event.Show v) s.board) s reached (kept_show v s.board)

goes_command_reply : (to_body : Answer → Body) (g : EventResult) (s : SessionState) → IsReached (seen s)
    → KeepsRun s.board g → GoesBy s (command_reply (with_body to_body g) s)
goes_command_reply to_body (Ok (a, b)) s reached kept =
    changed s (with_board b s) reached (seen_board b s kept)
goes_command_reply to_body (Err f) s reached kept = still s s reached refl

goes_switches : (o : Option ℕ) (expression : Text) (format : ValueFormat) (s : SessionState)
    → IsReached (seen s)
    → GoesBy s (prompting (byte_command (λ value. command.BoardSwitches value) o) expression format s)
unfolding command_result
goes_switches None expression format s reached = still s s reached refl
goes_switches (Some value) expression format s reached =
    goes_command_reply (λ _. body.Empty) (result_of (event.Switches value) s.board) s reached
    (record { run = refl; is_attached = refl })

goes_press : (o : Option ℕ) (expression : Text) (format : ValueFormat) (s : SessionState) → IsReached (seen s)
    → GoesBy s (prompting (byte_command (λ vector. command.BoardPress vector) o) expression format s)
unfolding command_result
goes_press None expression format s reached = still s s reached refl
goes_press (Some vector) expression format s reached =
    goes_command_reply (λ _. body.Empty) (result_of (event.Press vector) s.board) s reached
    (kept_press vector s.board)

goes_type : (text : Text) (s : SessionState) → IsReached (seen s)
    → GoesBy s (command_reply (board_result (command.BoardType text) s.board) s)
unfolding command_result
goes_type text s reached =
    goes_command_reply (λ _. body.Empty) (result_of (event.Typed (latin_bytes text)) s.board) s reached
    (record { run = refl; is_attached = refl })

goes_prompt : (switches press line : Option Text) (expression : Text)
    (format : ValueFormat) (s : SessionState) → IsReached (seen s)
    → GoesBy s (prompting (command_with switches press line) expression format s)
goes_prompt (Some n) press line expression format s reached =
    goes_switches (byte_spelled n) expression format s reached
goes_prompt None (Some n) line expression format s reached =
    goes_press (byte_spelled n) expression format s reached
goes_prompt None None (Some line) expression format s reached = goes_type (line ++ codes "\n") s reached
goes_prompt None None None expression format s reached = still s s reached refl

pub goes_evaluating : (expression : Text) (c : EvaluateContext) (format : ValueFormat)
    (s : SessionState) → IsReached (seen s)
    → GoesBy s (evaluating expression c format s)
goes_evaluating expression context.Repl format s reached =
    goes_prompt (behind (codes "switches ") expression) (behind (codes "press ") expression)
    (behind (codes "type ") expression) expression format s reached
goes_evaluating expression context.Watch format s reached = still s s reached refl
goes_evaluating expression context.Other format s reached = still s s reached refl

goes_setting : (r : Result SetValue Text) (s : SessionState) → IsReached (seen s) → GoesBy s (setting r s)
goes_setting (Ok set) s reached =
    let b = after_input set.input s.board in
    changed s (with_board b s) reached (seen_board b s (kept_input set.input s.board))
goes_setting (Err message) s reached = still s s reached refl

goes_handling_by : (a : VariablesAnswer) (s : SessionState) → IsReached (seen s) → GoesBy s (handling_by a s)
goes_handling_by (Outcome outcome) s reached = still s s reached refl
goes_handling_by (Change r) s reached =
    goes_either (is_stopped s.board.run) s _ _ (goes_setting r s reached) (still s s reached refl)

pub goes_handling : (c : VariablesCommand) (s : SessionState) → IsReached (seen s) → GoesBy s (handling c s)
goes_handling c s reached = goes_handling_by (variables_answer c s.board) s reached

pub goes_lines : (path : Text) (lines : List LineBreakpoint) (s : SessionState) → IsReached (seen s)
    → GoesBy s (setting_lines path lines s)
goes_lines path lines s reached =
    goes_either (has_place path s.settings.points.lists) s _ _
    (still s _ reached (seen_board _ s (kept_where (program_at path s.settings.program) _ s.board)))
    (still s s reached refl)

pub goes_functions : (functions : List FunctionBreakpoint) (s : SessionState) → IsReached (seen s)
    → GoesBy s (setting_functions functions s)
goes_functions functions s reached =
    still s _ reached (seen_board _ s (kept_where s.settings.program _ s.board))

goes_written : (o : Option ℕ) (bytes : Bytes) (s : SessionState) → IsReached (seen s)
    → GoesBy s (writing_from o bytes s)
goes_written None bytes s reached = still s s reached refl
goes_written (Some start) bytes s reached =
    let all = take (65536 - start) bytes in
    changed s (with_board (after_write start all s.board) s) reached
    (seen_board _ s (kept_written start all s.board))

pub goes_writing : (address : ℕ) (offset : SignedOffset) (bytes : Bytes) (s : SessionState)
    → IsReached (seen s)
    → GoesBy s (writing address offset bytes s)
goes_writing address offset bytes s reached =
    goes_either (is_stopped s.board.run) s _ _ (goes_written (address_at address offset) bytes s reached)
    (still s s reached refl)

-- ---- a run stops, or goes on

pub goes_paused : (a : Bool) (r : RunState) (s : SessionState) → s.board.run ≡ r → IsReached (seen s)
    → GoesBy s (board_done (with_body (λ _. body.Empty)
    (while_attached a (while_running r (Ok (answer.Accepted, board_stopped s.board)))))
    (follow.Stopped (AtBoard ByPause)) s)
goes_paused false r s is reached = still s s reached refl
goes_paused true NoRun s is reached = still s s reached refl
goes_paused true Stopped s is reached = still s s reached refl
goes_paused true Running s is reached =
    let has : has_run s.board.run ≡ true = ap has_run is in
    record {
      follows = runs_on Stopped (seen s) _ reached has refl refl refl;
      quiet = λ dead. both (is_live s.settings.program) (lively (seen s) reached has) dead;
    }

pub goes_resumed : (r : RunState) (step : Option StepRequest) (to_body : Answer → Body) (s : SessionState)
    → s.board.run ≡ r → IsReached (seen s)
    → GoesBy s (board_done (with_body to_body (while_stopped r (Ok (answer.Accepted, going_on step s.board))))
    follow.Continued s)
goes_resumed NoRun step to_body s is reached = still s s reached refl
goes_resumed Running step to_body s is reached = still s s reached refl
goes_resumed Stopped step to_body s is reached =
    let has : has_run s.board.run ≡ true = ap has_run is in
    record {
      follows = runs_on Running (seen s) _ reached has refl refl refl;
      quiet = λ dead. both (is_live s.settings.program) (lively (seen s) reached has) dead;
    }

-- ---- PC is set

released_phase_fits : (h : Phase) (run : RunState) (c : Bool) → PhaseFits h run c
    → PhaseFits (released_phase h) run c
released_phase_fits phase.Loaded run c fits = fits
released_phase_fits phase.Begun run c fits = fits
released_phase_fits (phase.Held how) run c fits = fits
released_phase_fits phase.Over run c fits = fits

released_fits : (o : Option Program) (run : RunState) (a c : Bool) → ProgramFits o run a c
    → ProgramFits (option_map released_program o) run a c
released_fits None run a c fits = fits
released_fits (Some p) run a c fits = (fits.0, released_phase_fits p.phase run c fits.1)

released_phase_lives : (h : Phase) → not (is_over (released_phase h)) ≡ not (is_over h)
released_phase_lives phase.Loaded = refl
released_phase_lives phase.Begun = refl
released_phase_lives (phase.Held how) = refl
released_phase_lives phase.Over = refl

released_lives : (o : Option Program) → is_live (option_map released_program o) ≡ is_live o
released_lives None = refl
released_lives (Some p) = released_phase_lives p.phase

goes_set : (r : RunState) (target : ℕ) (s : SessionState) → s.board.run ≡ r → IsReached (seen s)
    → GoesBy s (if is_stopped r
    then accepting (follow.Stopped Goto) (program_released (with_board (after_goto target s.board) s))
    else refusing (board_refusal NotStopped) s)
goes_set NoRun target s is reached = still s s reached refl
goes_set Running target s is reached = still s s reached refl
goes_set Stopped target s is reached =
    let program = s.settings.program in
    let lives : is_live program ≡ true = lively (seen s) reached (ap has_run is) in
    record {
      follows = record {
        reached = released_fits program s.board.run s.board.is_attached s.settings.is_configured reached;
        stops = sym (ap shown_for is);
        ends = none_living (is_live program) _ (released_lives program ∙ lives);
      };
      quiet = λ dead. both (is_live program) lives dead;
    }

pub goes_to : (target : ℕ) (s : SessionState) → IsReached (seen s) → GoesBy s (going_to target s)
goes_to target s reached = goes_set s.board.run target s refl reached

-- ---- a program ends

seen_interrupted : (b : Board) (s : SessionState) → b.is_attached ≡ s.board.is_attached
    → seen (program_over (with_board (after event.Interrupt b) s)) ≡ over_seen (seen s)
seen_interrupted b s attached = λ i. record {
  program = (over_seen (seen s)).program;
  run = run_interrupted b i;
  is_attached = (still_attached b ∙ attached) i;
  is_configured = s.settings.is_configured;
}

pub goes_finished : (r : RunState) (step : Option StepRequest) (to_body : Answer → Body) (code : ℕ)
    (s : SessionState)
    → s.board.run ≡ r → IsReached (seen s)
    → GoesBy s (finish_done (with_body to_body (while_stopped r (Ok (
      answer.Accepted,
      going_on
          step s.board,
    )))) code s)
goes_finished NoRun step to_body code s is reached = still s s reached refl
goes_finished Running step to_body code s is reached = still s s reached refl
goes_finished Stopped step to_body code s is reached =
    goes_ended code s _ (lively (seen s) reached (ap has_run is)) reached
    (seen_interrupted (going_on step s.board) s refl)

pub goes_resetting : (s : SessionState) → IsReached (seen s) → GoesBy s (resetting s)
unfolding command_result
goes_resetting s reached = goes_over (is_live s.settings.program) s _ refl reached refl

pub goes_terminating : (s : SessionState) → IsReached (seen s) → GoesBy s (terminating s)
goes_terminating s reached =
    goes_over (is_live s.settings.program) s _ refl reached (seen_interrupted s.board s refl)
