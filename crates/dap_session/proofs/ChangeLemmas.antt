-- What is told of changes by hand.
use Rattle.std.proofs.Common.{◌≡◌, ◌∙◌, inl, inr, ℕ, List, [], ◌++◌, Bool, true, false}
use Rattle.std.proofs.Common.{Option, Some, None, Result, Ok, Err, option_map, codes}
use Rattle.std.proofs.Common.{if◌then◌else◌, refl, sym, ap, true≢false}
use Rattle.std.specs.List.{list_any}
use Rattle.base_text.specs.Bytes.{Bytes, Text}
use Rattle.asm_syntax.specs.Outcome.{◌>>=◌}
use Rattle.lab_views.specs.declared.view.View.{View}
use Rattle.lab_views.specs.declared.view.View.TheVariants as view
use Rattle.lab_shown.specs.declared.shown.Shown.{Shown}
use Rattle.lab_shown.specs.declared.step.StepKind.{StepKind}
use Rattle.lab_shown.specs.declared.step.Granularity.{Granularity}
use Rattle.lab_views.specs.declared.fault.ViewFault.{ViewFault}
use Rattle.lab_views.specs.Views.{view_of}
use Rattle.lab_image.specs.Sources.{place_of, source_at}
use Rattle.lab_core.specs.declared.answer.Answer.{Answer}
use Rattle.lab_core.specs.declared.answer.Answer.TheVariants as answer
use Rattle.lab_core.specs.declared.answer.End.{End}
use Rattle.lab_core.specs.declared.event.Event.TheVariants as event
use Rattle.lab_core.specs.declared.event.StepRequest.{StepRequest}
use Rattle.lab_core.specs.declared.fault.EventFault.{EventFault}
use Rattle.lab_core.specs.declared.run_state.RunState.{RunState}
use Rattle.lab_core.specs.declared.run_state.RunState.TheVariants.{NoRun, Running, Stopped}
use Rattle.lab_core.specs.Board.{Board}
use Rattle.lab_core.specs.Events.{EventResult, result_of, while_stopped, while_running, while_attached}
use Rattle.lab_core.specs.Events.{with_source, or_source, as_answer, parts_of, going_on}
use Rattle.lab_core.specs.Events.{after_stop as board_stopped}
use Rattle.dap_answers.specs.declared.answer.Body.{Body}
use Rattle.dap_answers.specs.declared.answer.Body.TheVariants as body
use Rattle.dap_answers.specs.declared.answer.StopReason.TheVariants.{Pause as ByPause}
use Rattle.dap_messages.specs.declared.message.EditorStop.TheVariants.{Board as AtBoard}
use Rattle.dap_answers.specs.Murmur.{cell_path}
use Rattle.dap_requests.specs.declared.request.BoardCommand.{BoardCommand}
use Rattle.dap_requests.specs.declared.request.BoardCommand.TheVariants as command
use Rattle.dap_board.specs.Bodies.{body_of}
use Rattle.dap_board.specs.Commands.{Performed, IsLook as IsBoardLook, command_result, with_body}
use Rattle.dap_requests.specs.Board.{kernel_command}
use Rattle.dap_board.specs.Commands.{step_request}
use Rattle.dap_messages.specs.declared.message.EditorEvent.TheVariants as told
use Rattle.dap_messages.specs.declared.message.UndefinedOpcode.{UndefinedOpcode}
use Rattle.dap_messages.specs.declared.message.ValueFormat.{ValueFormat}
use Rattle.dap_requests.specs.declared.request.EditorCommand.{EditorCommand}
use Rattle.dap_requests.specs.declared.request.EditorCommand.TheVariants as editor
use Rattle.dap_requests.specs.declared.request.SourceCommand.{SourceCommand}
use Rattle.dap_requests.specs.declared.request.SourceCommand.TheVariants as source
use Rattle.dap_requests.specs.declared.request.BreakpointsCommand.{BreakpointsCommand}
use Rattle.dap_requests.specs.declared.request.BreakpointsCommand.TheVariants as breakpoints
use Rattle.dap_requests.specs.declared.request.MemoryCommand.{MemoryCommand}
use Rattle.dap_requests.specs.declared.request.MemoryCommand.TheVariants as memory
use Rattle.dap_requests.specs.declared.request.EvaluateContext.{EvaluateContext}
use Rattle.dap_requests.specs.declared.request.EvaluateContext.TheVariants as context
use Rattle.dap_requests.specs.declared.request.RequestContent.{RequestContent}
use Rattle.dap_requests.specs.declared.request.RequestContent.TheVariants as asked
use Rattle.dap_requests.specs.declared.offset.SignedOffset.{SignedOffset}
use Rattle.dap_values.specs.declared.assignment.SetValue.{SetValue}
use Rattle.dap_requests.specs.declared.request.VariablesCommand.{VariablesCommand}
use Rattle.dap_prompt.specs.declared.answer.VariablesAnswer.{VariablesAnswer}
use Rattle.dap_prompt.specs.declared.answer.VariablesAnswer.TheVariants.{Outcome, Change}
use Rattle.dap_prompt.specs.Answers.{variables_answer}
use Rattle.dap_points.specs.Points.{has_place}
use Rattle.dap_run.specs.declared.messages.FollowUp.{FollowUp}
use Rattle.dap_run.specs.declared.messages.FollowUp.TheVariants as follow
use Rattle.dap_run.specs.Boards.{board_result, board_after}
use Rattle.dap_breakpoints.specs.Arming.{board_armed_at}
use Rattle.dap_run.specs.Ends.{exit_code}
use Rattle.dap_values.specs.Distances.{address_at}
use Rattle.dap_run.specs.Messages.{event_if, events_of}
use Rattle.dap_launch.specs.declared.file.FileText.{FileText}
use Rattle.dap_run.specs.declared.program.Phase.{Phase}
use Rattle.dap_run.specs.declared.program.Phase.TheVariants as phase
use Rattle.dap_run.specs.declared.program.Program.{Program}
use Rattle.dap_run.specs.Lives.{in_phase, is_live, end_of, exception_of}
use Rattle.dap_breakpoints.specs.Arming.{ProgramLists, placed_on}
use Rattle.dap_session.specs.States.{SessionState}
use Rattle.dap_session.proofs.ShownLemmas.{handled_shown}
use Rattle.dap_session.specs.Turns.{Replied, change_follow}
use Rattle.dap_run.specs.Programs.{program_at}
use Rattle.dap_session.specs.Breakpoints.{armed_where}
use Rattle.dap_session.specs.Evaluations.{command_reply}
use Rattle.dap_prompt.specs.Prompt.{behind, byte_spelled, byte_command, command_with}
use Rattle.dap_session.specs.Evaluations.{prompting, evaluating, setting, handling_by, handling}
use Rattle.dap_session.specs.Launches.{beginning_in, beginning_where}
use Rattle.dap_session.specs.Memory.{is_stopped, writing_from, writing}
use Rattle.dap_session.specs.Targets.{going_to}
use Rattle.dap_session.specs.Requests.{board_done, finish_done, resuming_from, explaining, set_configured}
use Rattle.dap_session.specs.Requests.{resetting, on_board, on_editor, on_source, on_breakpoints, on_memory}
use Rattle.dap_session.specs.Requests.{objection, asking}
use Rattle.dap_session.specs.Requests.{asking_unless, turn}
use Rattle.dap_session.specs.Laws.{SameParts, is_invalidated, IsTold, IsWatched, IsLook}
use Rattle.dap_session.specs.Laws.{IsShown}

-- ---- what leaves the machine, the devices and the trace

pub same : (b : Board) → SameParts b b
same b = record { machine = refl; past = refl; trace = refl }

abbrev pub KeepsParts : Board → EventResult → Type 0
KeepsParts b (Ok (a, b')) = SameParts b b'
KeepsParts b (Err f) = Unit {0}

kept_after : (b : Board) (g : EventResult) → KeepsParts b g → SameParts b (board_after b g)
kept_after b (Ok (a, b')) kept = kept
kept_after b (Err f) kept = same b

kept_source : (o : Option (ℕ × List ℕ)) (b : Board) (f : ℕ → List ℕ → EventResult)
    → ((n : ℕ) (text : List ℕ) → KeepsParts b (f n text)) → KeepsParts b (with_source o f)
kept_source None b f kept = tt
kept_source (Some (n, text)) b f kept = kept n text

kept_step : {A : Type 0} (r : Result A EventFault) (b : Board) (f : A → EventResult)
    → ((x : A) → KeepsParts b (f x)) → KeepsParts b (r >>= f)
kept_step (Ok x) b f kept = kept x
kept_step (Err e) b f kept = tt

kept_answer : (r : Result Shown ViewFault) (b : Board) → KeepsParts b (as_answer r b)
kept_answer (Ok s) b = same b
kept_answer (Err f) b = tt

pub kept_show : (v : View) (b : Board) → KeepsParts b (result_of (event.Show v) b)
kept_show v b = kept_answer (view_of v (parts_of b)) b

pub kept_dump : (path text : Text) (b : Board) → KeepsParts b (result_of (event.Dump path text) b)
kept_dump path text b =
    kept_step (or_source (place_of (record { path = path; text = text }) b.sources)) b _
    (λ place. record { machine = refl; past = refl; trace = refl })

kept_armed : (path : Text) (lines : List ℕ) (b : Board)
    → SameParts b (board_armed_at path lines b)
kept_armed path lines b =
    kept_after b _ (kept_source (source_at b.sources path) b _
    (λ n text. record { machine = refl; past = refl; trace = refl }))

pub kept_where : (o : Option Program) (wanted : Program → ProgramLists) (b : Board)
    → SameParts b (armed_where o wanted b)
kept_where None wanted b = same b
kept_where (Some p) wanted b =
    kept_armed p.launch.program (placed_on b (wanted p)).on_board b

pub kept_pause : (a : Bool) (r : RunState) (b : Board)
    → KeepsParts b (while_attached a (while_running r (Ok (answer.Accepted, board_stopped b))))
kept_pause false r b = tt
kept_pause true NoRun b = tt
kept_pause true Running b = record { machine = refl; past = refl; trace = refl }
kept_pause true Stopped b = tt

pub kept_resume : (r : RunState) (step : Option StepRequest) (b : Board)
    → KeepsParts b (while_stopped r (Ok (answer.Accepted, going_on step b)))
kept_resume NoRun step b = tt
kept_resume Running step b = tt
kept_resume Stopped step b = record { machine = refl; past = refl; trace = refl }

-- ---- what is watched

-- as in IsWatched, without the request
record Watches (s : SessionState) (r : Replied) : Type 0 where
  supported : s.settings.supported.invalidated ≡ true
  live : is_live s.settings.program ≡ true
  program : r.state.settings.program ≡ s.settings.program

abbrev Tells : SessionState → Replied → Type 0
Tells s r = Watches s r → IsTold s (events_of r.follow) r.state

told_changes : (x y : Bool) → x ≡ true
    → list_any is_invalidated (event_if x told.Invalidated ++ event_if y told.Memory) ≡ true
told_changes true y is = refl
told_changes false y is = absurd (true≢false (sym is))

told_if : (live : Bool) (s : SessionState) → live ≡ true → s.settings.supported.invalidated ≡ true
    → list_any is_invalidated
    (events_of (if live then follow.Changed s.settings.supported else follow.Nothing)) ≡ true
told_if true s is supported =
    told_changes s.settings.supported.invalidated s.settings.supported.memory supported
told_if false s is supported = absurd (true≢false (sym is))

told_change : (s : SessionState) → s.settings.supported.invalidated ≡ true
    → is_live s.settings.program ≡ true → list_any is_invalidated (events_of (change_follow s)) ≡ true
told_change s supported live = told_if (is_live s.settings.program) s live supported

dead_over : (o : Option Program) → is_live o ≡ true → option_map (in_phase phase.Over) o ≡ o → ⊥
dead_over None live is = true≢false (sym live)
dead_over (Some p) live is = true≢false (sym live ∙ sym (ap is_live is))

either : (b : Bool) (s : SessionState) (r r' : Replied) → Tells s r → Tells s r'
    → Tells s (if b then r else r')
either true s r r' one two = one
either false s r r' one two = two

-- ---- commands of a board

by_hand : (p : Performed) (s : SessionState) → Tells s (board_done p (change_follow s) s)
by_hand (Ok (b, board)) s = λ w. inr (told_change s w.supported w.live)
by_hand (Err f) s = λ w. inl (same s.board)

kept_done : (to_body : Answer → Body) (g : EventResult) (f : FollowUp) (s : SessionState)
    → KeepsParts s.board g → Tells s (board_done (with_body to_body g) f s)
kept_done to_body (Ok (a, b)) f s kept = λ w. inl kept
kept_done to_body (Err fault) f s kept = λ w. inl (same s.board)

finished : (p : Performed) (code : ℕ) (s : SessionState) → Tells s (finish_done p code s)
finished (Ok (b, board)) code s = λ w. absurd (dead_over s.settings.program w.live w.program)
finished (Err f) code s = λ w. inl (same s.board)

continued : (o : Option End) (s : SessionState) → Tells s (resuming_from o command.Continue s)
unfolding command_result
continued None s = kept_done (λ _. body.Continued) _ follow.Continued s (kept_resume s.board.run None s.board)
continued (Some how) s = finished _ (exit_code how) s

stepped : (o : Option End) (kind : StepKind) (granularity : Granularity) (s : SessionState)
    → Tells s (resuming_from o (command.Step kind granularity) s)
unfolding command_result
stepped None kind granularity s =
    kept_done (λ _. body.Empty) _ follow.Continued s
    (kept_resume s.board.run (Some (step_request kind granularity)) s.board)
stepped (Some how) kind granularity s = finished _ (exit_code how) s

loaded_phase : Phase → Bool
loaded_phase phase.Loaded = true
loaded_phase other = false

loaded_in : Option Program → Bool
loaded_in None = false
loaded_in (Some p) = loaded_phase p.phase

begun_other : (o : Option Program) (p : Program) → p.phase ≡ phase.Loaded → o ≡ Some p
    → Some (in_phase phase.Begun p) ≡ o → ⊥
unfolding loaded_phase loaded_in
begun_other o p is on begun = true≢false (sym (ap loaded_in (begun ∙ on) ∙ ap loaded_phase is))

begun_in : (h : Phase) (p : Program) (s : SessionState) → p.phase ≡ h → s.settings.program ≡ Some p
    → Tells s (beginning_in h p (set_configured s))
begun_in phase.Loaded p s is on = λ w. absurd (begun_other s.settings.program p is on w.program)
begun_in phase.Begun p s is on = λ w. inl (same s.board)
begun_in (phase.Held how) p s is on = λ w. inl (same s.board)
begun_in phase.Over p s is on = λ w. inl (same s.board)

begun_where : (o : Option Program) (s : SessionState) → s.settings.program ≡ o
    → Tells s (beginning_where o (set_configured s))
begun_where None s on = λ w. inl (same s.board)
begun_where (Some p) s on = begun_in p.phase p s refl on

reset_over : (s : SessionState) → Tells s (resetting s)
unfolding command_result
reset_over s = λ w. absurd (dead_over s.settings.program w.live w.program)

shown : (v : View) (s : SessionState)
    → Tells s (board_done (with_body body_of (result_of (event.Show v) s.board)) follow.Nothing s)
shown v s = kept_done body_of _ follow.Nothing s (kept_show v s.board)

command_told : (c : BoardCommand) (s : SessionState) → Tells s (on_board c s)
unfolding command_result
command_told command.Attach s = λ w. inl (same s.board)
command_told command.Disconnect s = λ w. inl (same s.board)
command_told command.ConfigurationDone s = begun_where s.settings.program s refl
command_told command.BoardReset s = reset_over s
command_told command.Threads s = λ w. inl (same s.board)
command_told (command.StackTrace start levels) s = shown (view.Frames start levels) s
command_told command.Continue s = continued (end_of s.settings.program) s
command_told (command.Step kind granularity) s = stepped (end_of s.settings.program) kind granularity s
command_told command.Pause s =
    kept_done (λ _. body.Empty) (result_of event.Pause s.board) (follow.Stopped (AtBoard ByPause)) s
    (kept_pause s.board.is_attached s.board.run s.board)
command_told (command.Source path) s = shown (view.Source path) s
command_told (command.DumpCell code) s =
    kept_done (λ _. body.SourcePath (cell_path code))
    (result_of (event.Dump (cell_path code) code) s.board) follow.Nothing s
    (kept_dump (cell_path code) code s.board)
command_told command.DebugInfo s = shown view.Info s
command_told command.InspectVariables s = shown (view.Variables 1 0 0) s
command_told (command.BoardSwitches value) s =
    by_hand (board_result (command.BoardSwitches value) s.board) s
command_told (command.BoardPress vector) s =
    by_hand (board_result (command.BoardPress vector) s.board) s
command_told (command.BoardType text) s =
    by_hand (board_result (command.BoardType text) s.board) s
command_told (command.BoardAliases aliases) s =
    by_hand (board_result (command.BoardAliases aliases) s.board) s

-- ---- evaluations

reply_told : (p : Performed) (s : SessionState) → Tells s (command_reply p s)
reply_told (Ok (b, board)) s = λ w. inr (told_change s w.supported w.live)
reply_told (Err f) s = λ w. inl (same s.board)

byte_told : (to : ℕ → BoardCommand) (o : Option ℕ) (expression : Text) (format : ValueFormat)
    (s : SessionState)
    → Tells s (prompting (byte_command to o) expression format s)
byte_told to None expression format s = λ w. inl (same s.board)
byte_told to (Some n) expression format s = reply_told (board_result (to n) s.board) s

prompt_told : (switches press line : Option Text) (expression : Text)
    (format : ValueFormat) (s : SessionState)
    → Tells s (prompting (command_with switches press line) expression format s)
prompt_told (Some n) press line expression format s = byte_told _ (byte_spelled n) expression format s
prompt_told None (Some n) line expression format s = byte_told _ (byte_spelled n) expression format s
prompt_told None None (Some line) expression format s =
    reply_told (board_result (command.BoardType (line ++ codes "\n")) s.board) s
prompt_told None None None expression format s = λ w. inl (same s.board)

evaluated : (expression : Text) (c : EvaluateContext) (format : ValueFormat) (s : SessionState)
    → Tells s (evaluating expression c format s)
evaluated expression context.Repl format s =
    prompt_told (behind (codes "switches ") expression) (behind (codes "press ") expression)
    (behind (codes "type ") expression) expression format s
evaluated expression context.Watch format s = λ w. inl (same s.board)
evaluated expression context.Other format s = λ w. inl (same s.board)

value_changed : (r : Result SetValue Text) (s : SessionState) → Tells s (setting r s)
value_changed (Ok set) s = λ w. inr (told_change s w.supported w.live)
value_changed (Err message) s = λ w. inl (same s.board)

handled_by : (a : VariablesAnswer) (s : SessionState) → Tells s (handling_by a s)
handled_by (Outcome outcome) s = λ w. inl (same s.board)
handled_by (Change r) s =
    either (is_stopped s.board.run) s _ _ (value_changed r s) (λ w. inl (same s.board))

handled : (c : VariablesCommand) (s : SessionState) → Tells s (handling c s)
handled c s = handled_by (variables_answer c s.board) s

-- ---- commands of editors

explained : (o : Option UndefinedOpcode) (s : SessionState) → Tells s (explaining o s)
explained None s = λ w. inl (same s.board)
explained (Some undefined) s = λ w. inl (same s.board)

written_from : (o : Option ℕ) (bytes : Bytes) (s : SessionState) → Tells s (writing_from o bytes s)
written_from None bytes s = λ w. inl (same s.board)
written_from (Some start) bytes s = λ w. inr (told_change s w.supported w.live)

written : (address : ℕ) (offset : SignedOffset) (bytes : Bytes) (s : SessionState)
    → Tells s (writing address offset bytes s)
written address offset bytes s =
    either (is_stopped s.board.run) s _ _ (written_from (address_at address offset) bytes s)
    (λ w. inl (same s.board))

gone : (target : ℕ) (s : SessionState) → Tells s (going_to target s)
gone target s = either (is_stopped s.board.run) s _ _ (λ w. inr refl) (λ w. inl (same s.board))

source_told : (path : Text) (c : SourceCommand) (s : SessionState) → Tells s (on_source path c s)
source_told path (source.SetBreakpoints lines) s =
    either (has_place path s.settings.points.lists) s _ _
    (λ w. inl (kept_where (program_at path s.settings.program) _ s.board)) (λ w. inl (same s.board))
source_told path (source.BreakpointLocations first last) s = λ w. inl (same s.board)
source_told path (source.GotoTargets line) s = λ w. inl (same s.board)

breakpoints_told : (c : BreakpointsCommand) (s : SessionState) → Tells s (on_breakpoints c s)
breakpoints_told (breakpoints.SetFunctionBreakpoints functions) s =
    λ w. inl (kept_where s.settings.program _ s.board)
breakpoints_told (breakpoints.SetExceptionBreakpoints filters) s = λ w. inl (same s.board)
breakpoints_told (breakpoints.DataBreakpointInfo query) s = λ w. inl (same s.board)
breakpoints_told (breakpoints.SetDataBreakpoints on_data) s = λ w. inl (same s.board)
breakpoints_told (breakpoints.SetInstructionBreakpoints instructions) s = λ w. inl (same s.board)

memory_told : (c : MemoryCommand) (s : SessionState) → Tells s (on_memory c s)
memory_told (memory.ReadMemory address offset count) s = λ w. inl (same s.board)
memory_told (memory.WriteMemory address offset bytes) s = written address offset bytes s
memory_told (memory.Disassemble address offset instruction_offset count operands) s = λ w. inl (same s.board)

edit_told : (c : EditorCommand) (s : SessionState) → Tells s (on_editor c s)
edit_told (editor.Initialize supported numbering) s =
    either s.settings.is_initialized s _ _ (λ w. inl (same s.board)) (λ w. inl (same s.board))
edit_told editor.Terminate s = λ w. absurd (dead_over s.settings.program w.live w.program)
edit_told editor.ExceptionInfo s = explained (exception_of s.settings.program) s
edit_told (editor.Evaluate expression c format) s = evaluated expression c format s
edit_told editor.LoadedSources s = λ w. inl (same s.board)
edit_told (editor.StepBack by) s = λ w. inl (same s.board)
edit_told editor.ReverseContinue s = λ w. inl (same s.board)
edit_told (editor.Goto target) s = gone target s
edit_told (editor.OnSource path c) s = source_told path c s
edit_told (editor.Breakpoints c) s = breakpoints_told c s
edit_told (editor.Memory c) s = memory_told c s
edit_told (editor.Variables c) s = handled c s

-- ---- all requests

watches : (a : RequestContent) (s : SessionState) (r : Replied) → IsWatched a s r.state → Watches s r
watches a s r w = record { supported = w.supported; live = w.live; program = w.program }

told_asking : (a : RequestContent) (found : Option FileText) (s : SessionState)
    → IsWatched a s (asking a found s).state → IsTold s (asking a found s).events (asking a found s).state
told_asking (asked.Load c) found s w = absurd (true≢false w.loads)
told_asking (asked.Board c) found s w = command_told c s (watches _ s (on_board c s) w)
told_asking (asked.Faulty f) found s w = inl (same s.board)
told_asking (asked.Editor c) found s w = edit_told c s (watches _ s (on_editor c s) w)

told_unless : (o : Option Text) (a : RequestContent) (found : Option FileText) (s : SessionState)
    → IsWatched a s (asking_unless o a found s).state
    → IsTold s (asking_unless o a found s).events (asking_unless o a found s).state
told_unless (Some text) a found s w = inl (same s.board)
told_unless None a found s w = told_asking a found s w

pub told_turn : (a : RequestContent) (found : Option FileText) (s : SessionState)
    → IsWatched a s (turn a found s).state → IsTold s (turn a found s).events (turn a found s).state
unfolding turn
told_turn a found s w =
    told_unless (objection a s) a found s
    (record { supported = w.supported; live = w.live; program = w.program; loads = w.loads })

-- ---- looks

quiet_done : (p : Performed) (s : SessionState) → events_of (board_done p follow.Nothing s).follow ≡ []
quiet_done (Ok (b, board)) s = refl
quiet_done (Err f) s = refl

quiet_shown : (c : VariablesCommand) (s : SessionState) → IsShown c → events_of (handling c s).follow ≡ []
quiet_shown c s is = ap (λ (r : Replied). events_of r.follow) (handled_shown c s is).1

quiet_explained : (o : Option UndefinedOpcode) (s : SessionState) → events_of (explaining o s).follow ≡ []
quiet_explained None s = refl
quiet_explained (Some undefined) s = refl

quiet_command : (c : BoardCommand) (s : SessionState) → IsBoardLook (kernel_command c)
    → events_of (on_board c s).follow ≡ []
quiet_command (command.StackTrace start levels) s is = quiet_done _ s
quiet_command (command.Source path) s is = quiet_done _ s
quiet_command command.DebugInfo s is = quiet_done _ s
quiet_command command.InspectVariables s is = quiet_done _ s
quiet_command other s is = absurd is

quiet_asking : (a : RequestContent) (found : Option FileText) (s : SessionState) → IsLook a
    → (asking a found s).events ≡ []
quiet_asking (asked.Board c) found s is = quiet_command c s is
quiet_asking (asked.Editor (editor.Evaluate expression context.Watch format)) found s is = refl
quiet_asking (asked.Editor (editor.Evaluate expression context.Other format)) found s is = refl
quiet_asking (asked.Editor (editor.Variables c)) found s is = quiet_shown c s is
quiet_asking (asked.Editor editor.ExceptionInfo) found s is =
    quiet_explained (exception_of s.settings.program) s
quiet_asking (asked.Editor (editor.Memory (memory.ReadMemory address offset count))) found s is = refl
quiet_asking (asked.Editor (editor.Memory (memory.Disassemble address offset instructions count operands)))
    found s is = refl
quiet_asking (asked.Editor editor.LoadedSources) found s is = refl
quiet_asking (asked.Editor (editor.OnSource path (source.GotoTargets line))) found s is = refl
quiet_asking (asked.Editor (editor.Breakpoints (breakpoints.DataBreakpointInfo query))) found s is = refl
quiet_asking (asked.Editor (editor.OnSource path (source.BreakpointLocations first last))) found s is = refl
quiet_asking other found s is = absurd is

quiet_unless : (o : Option Text) (a : RequestContent) (found : Option FileText) (s : SessionState) → IsLook a
    → (asking_unless o a found s).events ≡ []
quiet_unless (Some text) a found s is = refl
quiet_unless None a found s is = quiet_asking a found s is

pub look_turn : (a : RequestContent) (found : Option FileText) (s : SessionState) → IsLook a
    → (turn a found s).events ≡ []
unfolding turn
look_turn a found s is = quiet_unless (objection a s) a found s is
