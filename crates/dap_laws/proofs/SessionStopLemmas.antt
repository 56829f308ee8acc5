-- What requests and slices tell of stops and of ends.
use Rattle.std.proofs.Common.{◌≡◌, ◌∙◌, ℕ, List, [], ◌∷◌, ◌++◌, Bool, true, false, not, ◌&&◌, ◌||◌}
use Rattle.std.proofs.Common.{Option, Some}
use Rattle.std.proofs.Common.{option_map, if◌then◌else◌}
use Rattle.std.proofs.Common.{None, Ok, refl, sym, ap, subst, inl, inr, true≢false, fold, filter_map}
use Rattle.std.proofs.lemmas.Bool.{cases_Bool, and_parts}
use Rattle.std.proofs.lemmas.List.Sums.{fold-append}
use Rattle.base_text.specs.Bytes.{Bytes, Text}
use Rattle.base_text.specs.Latin.{latin_bytes}
use Rattle.lab_views.specs.declared.view.View.TheVariants as view
use Rattle.lab_core.specs.declared.answer.Answer.TheVariants as answer
use Rattle.lab_core.specs.declared.answer.End.{End}
use Rattle.lab_core.specs.declared.answer.End.TheVariants as end
use Rattle.lab_shown.specs.declared.place.PlaceChange.{PlaceChange}
use Rattle.lab_core.specs.declared.answer.SliceOutcome.{SliceOutcome}
use Rattle.lab_core.specs.declared.answer.SliceOutcome.TheVariants as outcome
use Rattle.lab_core.specs.declared.answer.Stop.{Stop}
use Rattle.lab_core.specs.declared.answer.Stop.TheVariants as stop
use Rattle.lab_core.specs.declared.event.Event.TheVariants as event
use Rattle.lab_core.specs.declared.run_state.RunState.{RunState}
use Rattle.lab_core.specs.declared.run_state.RunState.TheVariants.{NoRun, Running, Stopped}
use Rattle.lab_core.specs.Board.{Board}
use Rattle.lab_core.specs.Events.{result_of}
use Rattle.lab_core.specs.Slices.{traffic_of, after_steps, left_by}
use Rattle.dap_session.specs.Slices.{slice_end_in}
use Rattle.i80_devs.specs.Console.{written_to_console}
use Rattle.dap_answers.specs.declared.answer.Body.TheVariants as body
use Rattle.dap_answers.specs.Murmur.{cell_path}
use Rattle.dap_requests.specs.declared.request.BoardCommand.{BoardCommand}
use Rattle.dap_requests.specs.declared.request.BoardCommand.TheVariants as command
use Rattle.dap_board.specs.Commands.{command_result, board_with, step_request}
use Rattle.dap_requests.specs.declared.request.RequestContent.{RequestContent}
use Rattle.dap_requests.specs.declared.request.RequestContent.TheVariants as asked
use Rattle.dap_requests.specs.declared.request.EditorCommand.{EditorCommand}
use Rattle.dap_requests.specs.declared.request.EditorCommand.TheVariants as editor
use Rattle.dap_requests.specs.declared.request.LoadCommand.TheVariants as load
use Rattle.dap_requests.specs.declared.request.SourceCommand.{SourceCommand}
use Rattle.dap_requests.specs.declared.request.SourceCommand.TheVariants as source
use Rattle.dap_requests.specs.declared.request.BreakpointsCommand.{BreakpointsCommand}
use Rattle.dap_requests.specs.declared.request.BreakpointsCommand.TheVariants as breakpoints
use Rattle.dap_requests.specs.declared.request.MemoryCommand.{MemoryCommand}
use Rattle.dap_requests.specs.declared.request.MemoryCommand.TheVariants as memory
use Rattle.dap_run.specs.Messages.{as_messages}
use Rattle.dap_run.specs.Slices.{log_events, console_events, line_events, outcome_events, run_end_events}
use Rattle.dap_run.specs.Slices.{stop_event}
use Rattle.dap_slice.specs.declared.logs.LogLine.{LogLine}
use Rattle.dap_slice.specs.Logs.{logs_before}
use Rattle.dap_slice.specs.SliceEnds.{change_after, ids_after}
use Rattle.dap_run.specs.Slices.{asks_line}
use Rattle.dap_messages.specs.declared.message.UndefinedOpcode.{UndefinedOpcode}
use Rattle.dap_requests.specs.declared.request.Launch.{Launch as LaunchOf}
use Rattle.dap_run.specs.declared.end.EndPolicy.{EndPolicy}
use Rattle.dap_run.specs.declared.end.EndPolicy.TheVariants.{Exit, Hold}
use Rattle.dap_run.specs.Ends.{exit_code, policy_at, left_at_end, held_at_end}
use Rattle.dap_requests.specs.declared.request.ExceptionFilters.{ExceptionFilters}
use Rattle.dap_launch.specs.declared.file.FileText.{FileText}
use Rattle.dap_run.specs.declared.program.Phase.{Phase}
use Rattle.dap_run.specs.declared.program.Phase.TheVariants as phase
use Rattle.dap_run.specs.declared.program.Program.{Program}
use Rattle.dap_run.specs.Lives.{in_phase, is_live, held_for, held_ends, policy_of, ended_phase}
use Rattle.dap_run.specs.Lives.{ended_program}
use Rattle.dap_run.specs.Lives.{end_of, exception_of}
use Rattle.lab_shown.specs.declared.step.StepKind.{StepKind}
use Rattle.lab_shown.specs.declared.step.Granularity.{Granularity}
use Rattle.dap_session.specs.States.{SessionState, session_before_requests, with_board}
use Rattle.dap_session.specs.States.{is_running, wants_slice, with_filters}
use Rattle.dap_session.specs.Breakpoints.{setting_data, setting_instructions}
use Rattle.dap_session.specs.Requests.{resuming_from, explaining, set_initialized, on_board, on_editor}
use Rattle.dap_session.specs.Requests.{on_source, on_breakpoints, on_memory}
use Rattle.dap_session.specs.Requests.{objection, asking}
use Rattle.dap_session.specs.Requests.{asking_unless, turn}
use Rattle.dap_session.specs.Slices.{Input, request, slice, settings_after, slicing, slice_told, step}
use Rattle.dap_session.specs.Slices.{play_all, with_question, with_hits}
use Rattle.dap_session.specs.Laws.{Shown, stopped, unstopped, shown_after, shown_by, shown_for, ends_told}
use Rattle.dap_session.specs.Laws.{ends_between, has_run, has_begun, events_in, asks_to_load, loads}
use Rattle.dap_laws.proofs.BoardLemmas.{SameRun, kept_without, kept_dump, kept_press}
use Rattle.dap_laws.proofs.BoardLemmas.{kept_steps}
use Rattle.dap_laws.proofs.RunLemmas.{Seen, seen, seen_board, PhaseFits, ProgramFits, IsReached, no_run}
use Rattle.dap_laws.proofs.RunLemmas.{idle, lively}
use Rattle.dap_laws.proofs.RunLemmas.{begun_runs, with_run, none_living}
use Rattle.dap_laws.proofs.RunLemmas.{over_seen, Follows, still, runs_on, ends_live, IsCalm, calm_follows}
use Rattle.dap_laws.proofs.TurnLemmas.{GoesBy, goes_either, goes_changed, goes_board, goes_shown}
use Rattle.dap_laws.proofs.TurnLemmas.{goes_evaluating, goes_handling, goes_to}
use Rattle.dap_laws.proofs.TurnLemmas.{goes_lines, goes_functions, goes_writing, goes_paused}
use Rattle.dap_laws.proofs.TurnLemmas.{goes_resumed, goes_finished, goes_resetting, goes_terminating}
use Rattle.dap_laws.proofs.StartLemmas.{goes_where, calm_none, FollowsTurn, follows_launch}
use Rattle.dap_laws.proofs.StartLemmas.{follows_restart}

-- ---- the requests that load nothing

goes_continued : (o : Option End) (s : SessionState) → IsReached (seen s)
    → GoesBy s (resuming_from o command.Continue s)
unfolding command_result
goes_continued None s reached = goes_resumed s.board.run None _ s refl reached
goes_continued (Some how) s reached = goes_finished s.board.run None _ (exit_code how) s refl reached

goes_stepped : (o : Option End) (kind : StepKind) (granularity : Granularity) (s : SessionState)
    → IsReached (seen s) → GoesBy s (resuming_from o (command.Step kind granularity) s)
unfolding command_result
goes_stepped None kind granularity s reached =
    goes_resumed s.board.run (Some (step_request kind granularity)) _ s refl reached
goes_stepped (Some how) kind granularity s reached =
    goes_finished s.board.run (Some (step_request kind granularity)) _ (exit_code how) s refl reached

goes_explaining : (o : Option UndefinedOpcode) (s : SessionState) → IsReached (seen s)
    → GoesBy s (explaining o s)
goes_explaining None s reached = still s s reached refl
goes_explaining (Some undefined) s reached = still s s reached refl

goes_command : (c : BoardCommand) (s : SessionState) → IsReached (seen s) → GoesBy s (on_board c s)
unfolding command_result
goes_command command.Attach s reached = still s s reached refl
goes_command command.Disconnect s reached = still s _ reached refl
goes_command command.ConfigurationDone s reached = goes_where s.settings.program s refl reached
goes_command command.BoardReset s reached = goes_resetting s reached
goes_command command.Threads s reached = still s _ reached refl
goes_command (command.StackTrace start levels) s reached = goes_shown (view.Frames start levels) s reached
goes_command command.Continue s reached = goes_continued (end_of s.settings.program) s reached
goes_command (command.Step kind granularity) s reached =
    goes_stepped (end_of s.settings.program) kind granularity s reached
goes_command command.Pause s reached = goes_paused s.board.is_attached s.board.run s refl reached
goes_command (command.Source path) s reached = goes_shown (view.Source path) s reached
goes_command (command.DumpCell code) s reached =
    goes_board (λ _. body.SourcePath (cell_path code)) _ s reached (kept_dump (cell_path code) code s.board)
goes_command command.DebugInfo s reached = goes_shown view.Info s reached
goes_command command.InspectVariables s reached = goes_shown (view.Variables 1 0 0) s reached
goes_command (command.BoardSwitches value) s reached =
    goes_changed (λ _. body.Empty) (result_of (event.Switches value) s.board) s reached
    (record { run = refl; is_attached = refl })
goes_command (command.BoardPress vector) s reached =
    goes_changed (λ _. body.Empty) (result_of (event.Press vector) s.board) s reached (kept_press vector
    s.board)
goes_command (command.BoardType text) s reached =
    goes_changed (λ _. body.Empty) (result_of (event.Typed (latin_bytes text)) s.board) s reached
    (record { run = refl; is_attached = refl })
goes_command (command.BoardAliases aliases) s reached =
    goes_changed (λ _. body.Empty) (result_of (event.SetBoard (board_with aliases)) s.board) s reached
    (kept_without s.board.run s.board (Ok (answer.BoardSet, _)) (record { run = refl; is_attached = refl }))

goes_source : (path : Text) (c : SourceCommand) (s : SessionState) → IsReached (seen s)
    → GoesBy s (on_source path c s)
goes_source path (source.SetBreakpoints lines) s reached = goes_lines path lines s reached
goes_source path (source.BreakpointLocations first last) s reached = still s s reached refl
goes_source path (source.GotoTargets line) s reached = still s s reached refl

goes_breakpoints : (c : BreakpointsCommand) (s : SessionState) → IsReached (seen s)
    → GoesBy s (on_breakpoints c s)
goes_breakpoints (breakpoints.SetFunctionBreakpoints functions) s reached = goes_functions functions s reached
goes_breakpoints (breakpoints.SetExceptionBreakpoints filters) s reached =
    still s (with_filters filters s) reached refl
goes_breakpoints (breakpoints.DataBreakpointInfo query) s reached = still s s reached refl
goes_breakpoints (breakpoints.SetDataBreakpoints on_data) s reached =
    still s (setting_data on_data s).state reached refl
goes_breakpoints (breakpoints.SetInstructionBreakpoints instructions) s reached =
    still s (setting_instructions instructions s).state reached refl

goes_memory : (c : MemoryCommand) (s : SessionState) → IsReached (seen s) → GoesBy s (on_memory c s)
goes_memory (memory.ReadMemory address offset count) s reached = still s s reached refl
goes_memory (memory.WriteMemory address offset bytes) s reached = goes_writing address offset bytes s reached
goes_memory (memory.Disassemble address offset instruction_offset count operands) s reached =
    still s s reached refl

goes_editor : (c : EditorCommand) (s : SessionState) → IsReached (seen s) → GoesBy s (on_editor c s)
goes_editor (editor.Initialize supported numbering) s reached =
    goes_either s.settings.is_initialized s _ _ (still s s reached refl)
    (still s (set_initialized supported s) reached refl)
goes_editor editor.Terminate s reached = goes_terminating s reached
goes_editor editor.ExceptionInfo s reached = goes_explaining (exception_of s.settings.program) s reached
goes_editor (editor.Evaluate expression c format) s reached = goes_evaluating expression c format s reached
goes_editor editor.LoadedSources s reached = still s s reached refl
goes_editor (editor.StepBack by) s reached = still s s reached refl
goes_editor editor.ReverseContinue s reached = still s s reached refl
goes_editor (editor.Goto target) s reached = goes_to target s reached
goes_editor (editor.OnSource path c) s reached = goes_source path c s reached
goes_editor (editor.Breakpoints c) s reached = goes_breakpoints c s reached
goes_editor (editor.Memory c) s reached = goes_memory c s reached
goes_editor (editor.Variables c) s reached = goes_handling c s reached

-- ---- all requests

follows_asking : (a : RequestContent) (found : Option FileText) (s : SessionState) → IsReached (seen s)
    → FollowsTurn s (asking a found s)
follows_asking (asked.Load (load.Launch l)) found s reached =
    follows_launch s.settings.program l found s refl reached
follows_asking (asked.Load (load.Restart l)) found s reached =
    follows_restart s.settings.program l found s reached
follows_asking (asked.Board c) found s reached = (goes_command c s reached).follows
follows_asking (asked.Faulty f) found s reached = (still s s reached refl).follows
follows_asking (asked.Editor c) found s reached = (goes_editor c s reached).follows

follows_unless : (o : Option Text) (a : RequestContent) (found : Option FileText) (s : SessionState)
    → IsReached (seen s)
    → FollowsTurn s (asking_unless o a found s)
follows_unless (Some text) a found s reached = (still s s reached refl).follows
follows_unless None a found s reached = follows_asking a found s reached

pub follows_turn : (a : RequestContent) (found : Option FileText) (s : SessionState) → IsReached (seen s)
    → FollowsTurn s (turn a found s)
unfolding turn
follows_turn a found s reached = follows_unless (objection a s) a found s reached

quiet_asking : (a : RequestContent) (found : Option FileText) (s : SessionState) → IsReached (seen s)
    → is_live s.settings.program ≡ false → asks_to_load a ≡ false → (asking a found s).events ≡ []
quiet_asking (asked.Load c) found s reached dead is = absurd (true≢false is)
quiet_asking (asked.Board c) found s reached dead is = (goes_command c s reached).quiet dead
quiet_asking (asked.Faulty f) found s reached dead is = refl
quiet_asking (asked.Editor c) found s reached dead is = (goes_editor c s reached).quiet dead

quiet_unless : (o : Option Text) (a : RequestContent) (found : Option FileText) (s : SessionState)
    → IsReached (seen s)
    → is_live s.settings.program ≡ false → asks_to_load a ≡ false → (asking_unless o a found s).events ≡ []
quiet_unless (Some text) a found s reached dead is = refl
quiet_unless None a found s reached dead is = quiet_asking a found s reached dead is

pub quiet_turn : (a : RequestContent) (found : Option FileText) (s : SessionState) → IsReached (seen s)
    → is_live s.settings.program ≡ false → asks_to_load a ≡ false → (turn a found s).events ≡ []
unfolding turn
quiet_turn a found s reached dead is = quiet_unless (objection a s) a found s reached dead is

-- ---- slices

calm_console : (bytes : Bytes) → IsCalm (console_events bytes)
calm_console [] = calm_none
calm_console (byte ∷ bytes) = record { stops = λ d. refl; ends = refl }

calm_logs : (ls : List LogLine) → IsCalm (log_events ls)
calm_logs [] = calm_none
calm_logs (l ∷ ls) = let rest = calm_logs ls in record { stops = λ d. rest.stops d; ends = rest.ends }

calm_line : (b : Bool) → IsCalm (line_events b)
calm_line true = record { stops = λ d. refl; ends = refl }
calm_line false = calm_none

over_shown : (e : End) (d : Shown) → fold shown_after d (as_messages (run_end_events Exit e)) ≡ unstopped
over_shown end.Halted d = refl
over_shown (end.Undefined opcode pc) d = refl

over_ends : (e : End) → ends_told (as_messages (run_end_events Exit e)) ≡ 1
over_ends end.Halted = refl
over_ends (end.Undefined opcode pc) = refl

held_shown : (e : End) (d : Shown) → fold shown_after d (as_messages (run_end_events Hold e)) ≡ stopped
held_shown end.Halted d = refl
held_shown (end.Undefined opcode pc) d = refl

held_end_told : (e : End) → ends_told (as_messages (run_end_events Hold e)) ≡ 0
held_end_told end.Halted = refl
held_end_told (end.Undefined opcode pc) = refl

configured_phase : (h : Phase) (run : RunState) (c : Bool) → PhaseFits h run c → has_run run ≡ true
    → c ≡ true
configured_phase phase.Loaded run c fits has = absurd (no_run run fits has)
configured_phase phase.Begun run c fits has = fits.1
configured_phase (phase.Held how) run c fits has = fits.1
configured_phase phase.Over run c fits has = absurd (no_run run fits has)

-- a program whose run ended so, on this board
abbrev ended_seen : EndPolicy → End → Program → Board → Bool → Seen
ended_seen policy e p b is_configured =
    let b' = left_at_end policy (left_by (outcome.End e) b) in
    record {
      program = Some (in_phase (ended_phase policy e) p);
      run = b'.run;
      is_attached = b'.is_attached;
      is_configured = is_configured;
    }

follows_ended : (policy : EndPolicy) (e : End) (p : Program) (b : Board) (s : SessionState)
    → s.settings.program ≡ Some p → (policy ≡ Hold → p.launch.is_debugged ≡ true) → SameRun s.board b
    → IsReached (seen s) → has_run s.board.run ≡ true
    → Follows (seen s) (as_messages (run_end_events policy e))
    (ended_seen policy e p b s.settings.is_configured)
follows_ended Exit e p b s on debugs kept reached has =
    let es = as_messages (run_end_events Exit e) in
    let same : over_seen (seen s) ≡ ended_seen Exit e p b s.settings.is_configured = λ i. record {
      program = option_map (in_phase phase.Over) (on i);
      run = NoRun;
      is_attached = sym kept.is_attached i;
      is_configured = s.settings.is_configured;
    } in
    subst (λ w. Follows (seen s) es w) same
    (ends_live (seen s) es reached (lively (seen s) reached has) (over_shown e (shown_for s.board.run))
    (over_ends e))
follows_ended Hold e p b s on debugs kept reached has =
    let fits : ProgramFits (Some p) s.board.run s.board.is_attached s.settings.is_configured =
    subst (λ o. ProgramFits o s.board.run s.board.is_attached s.settings.is_configured) on reached in
    record {
      reached = (
        sym (debugs refl),
        (refl, configured_phase p.phase s.board.run s.settings.is_configured fits.1 has),
      );
      stops = held_shown e (shown_for s.board.run);
      ends = held_end_told e ∙ none_living (is_live s.settings.program) true refl;
    }

held_if : (b : Bool) → (if b then Hold else Exit) ≡ Hold → b ≡ true
held_if true is = refl
held_if false is = absurd cc

held_filtered : (d filtered : Bool) → (if d && filtered then Hold else Exit) ≡ Hold → d ≡ true
held_filtered d filtered is = (and_parts d filtered (held_if (d && filtered) is)).0

held_debugged : (f : ExceptionFilters) (l : LaunchOf) (e : End) → policy_at (held_for f l) e ≡ Hold
    → l.is_debugged ≡ true
held_debugged f l end.Halted is = held_filtered l.is_debugged (l.stops_at_end || f.halt) is
held_debugged f l (end.Undefined opcode pc) is =
    held_filtered l.is_debugged (l.stops_at_end || f.undefined) is

follows_end : (f : ExceptionFilters) (o : Option Program) (e : End) (b : Board) (s : SessionState)
    → s.settings.program ≡ o → SameRun s.board b → IsReached (seen s) → has_run s.board.run ≡ true
    → Follows (seen s) (as_messages (run_end_events (policy_of f o e) e)) (record {
      program = option_map (ended_program f e) o;
      run = (left_at_end (policy_of f o e) (left_by (outcome.End e) b)).run;
      is_attached = (left_at_end (policy_of f o e) (left_by (outcome.End e) b)).is_attached;
      is_configured = s.settings.is_configured;
    })
follows_end f None e b s on kept reached has =
    absurd (true≢false (sym (lively (seen s) reached has) ∙ ap is_live on))
follows_end f (Some p) e b s on kept reached has =
    follows_ended (policy_at (held_for f p.launch) e) e p b s on (held_debugged f p.launch e) kept reached has

abbrev held_in : SessionState → ExceptionFilters
held_in s = held_ends s.settings.filters s.settings.program

-- the session after a slice of its run that ended so, on this board
abbrev left : SliceOutcome → Board → SessionState → SessionState
left o b s = record {
  board = held_at_end (held_in s) o (left_by o b);
  settings = settings_after o s.settings;
}

-- one of these events says that the run is stopped
follows_stop : (c : Option PlaceChange) (ids : List ℕ) (r : Stop) (s : SessionState) → IsReached (seen s)
    → has_run s.board.run ≡ true
    → Follows (seen s) (as_messages (stop_event c ids r ∷ [])) (with_run Stopped (seen s))
follows_stop (Some change) ids r s reached has = runs_on Stopped (seen s) _ reached has refl refl refl
follows_stop None ids stop.Breakpoint s reached has = runs_on Stopped (seen s) _ reached has refl refl refl
follows_stop None ids other s reached has = runs_on Stopped (seen s) _ reached has refl refl refl

follows_outcome : (c : Option PlaceChange) (ids : List ℕ) (o : SliceOutcome) (b : Board) (s : SessionState)
    → SameRun s.board b → IsReached (seen s) → has_run s.board.run ≡ true
    → Follows (seen s) (as_messages (outcome_events (held_in s) c ids o)) (seen (left o b s))
follows_outcome c ids outcome.More b s kept reached has =
    (still s (with_board b s) reached (seen_board b s kept)).follows
follows_outcome c ids outcome.Waiting b s kept reached has =
    (still s (with_board b s) reached (seen_board b s kept)).follows
follows_outcome c ids (outcome.Stop r) b s kept reached has =
    let es = as_messages (outcome_events (held_in s) c ids (outcome.Stop r)) in
    subst (λ a. Follows (seen s) es (record (with_run Stopped (seen s)) { is_attached = a }))
    (sym kept.is_attached) (follows_stop c ids r s reached has)
follows_outcome c ids (outcome.End e) b s kept reached has =
    follows_end s.settings.filters s.settings.program e b s refl kept reached has

pub follows_slicing : (p : ℕ × SliceOutcome) (s : SessionState) → IsReached (seen s) → has_run
    s.board.run ≡ true
    → Follows (seen s) (slicing p s).messages (seen (slicing p s).state)
follows_slicing (k, ending) s reached has =
    let written = filter_map written_to_console (traffic_of k s.board) in
    let asks = asks_line s.settings.has_asked k (traffic_of k s.board) in
    let noted : SessionState = record s { settings = with_question asks (with_hits k s) } in
    let change = change_after s.settings.conditional (k, ending) s.board in
    let ids = ids_after s.settings.conditional (k, ending) s.board in
    let last = outcome_events (held_in s) change ids ending in
    let logs = logs_before s.settings.conditional k s.board in
    calm_follows (log_events logs) (console_events written ++ (line_events asks ++ last)) _ _
    (calm_logs logs)
    (calm_follows (console_events written) (line_events asks ++ last) _ _
    (calm_console written)
    (calm_follows (line_events asks) last _ _ (calm_line asks)
    (follows_outcome change ids ending (after_steps k s.board) noted (kept_steps k s.board) reached has)))

pub running_has : (r : RunState) → is_running r ≡ true → has_run r ≡ true
running_has NoRun is = absurd (true≢false (sym is))
running_has Running is = refl
running_has Stopped is = absurd (true≢false (sym is))

pub follows_sliced : (s : SessionState) → IsReached (seen s)
    → Follows (seen s) (slice_told s).messages (seen (slice_told s).state)
unfolding slice_told
follows_sliced s reached = elim (cases_Bool (wants_slice s)) [
  | inl so ↦
      rw so (follows_slicing (slice_end_in 4096 s) s reached
      (running_has s.board.run (and_parts (is_running s.board.run) (not s.settings.waits) so).0))
  | inr other ↦ rw other (still s s reached refl).follows
]

pub quiet_sliced : (s : SessionState) → IsReached (seen s) → is_live s.settings.program ≡ false
    → events_in (slice_told s).messages ≡ []
unfolding slice_told
quiet_sliced s reached dead =
    let unwanted : wants_slice s ≡ false =
    ap (λ r. is_running r && not s.settings.waits) (idle (seen s) reached dead) in
    rw unwanted refl

-- ---- sessions

follows_step : (input : Input) (s : SessionState) → IsReached (seen s)
    → Follows (seen s) (step input s).messages (seen (step input s).state)
follows_step (request r found) s reached =
    let follows = follows_turn r.asked found s reached in
    record { reached = follows.reached; stops = follows.stops; ends = follows.ends }
follows_step slice s reached = follows_sliced s reached

quiet_step : (input : Input) (s : SessionState) → IsReached (seen s) → is_live s.settings.program ≡ false
    → loads input ≡ false → events_in (step input s).messages ≡ []
quiet_step (request r found) s reached dead is =
    ap (λ es. events_in (as_messages es)) (quiet_turn r.asked found s reached dead is)
quiet_step slice s reached dead is = quiet_sliced s reached dead

reached_from : (inputs : List Input) (s : SessionState) → IsReached (seen s)
    → IsReached (seen (play_all inputs s).state)
reached_from [] s reached = reached
reached_from (input ∷ inputs) s reached =
    reached_from inputs (step input s).state (follows_step input s reached).reached

stops_from : (inputs : List Input) (s : SessionState) → IsReached (seen s)
    → fold shown_after (shown_for s.board.run) (play_all inputs s).messages
    ≡ shown_for (play_all inputs s).state.board.run
stops_from [] s reached = refl
stops_from (input ∷ inputs) s reached =
    let first = step input s in
    let rest = play_all inputs first.state in
    let follows = follows_step input s reached in
    fold-append shown_after (shown_for s.board.run) first.messages rest.messages
    ∙ (ap (λ d. fold shown_after d rest.messages) follows.stops
    ∙ stops_from inputs first.state follows.reached)

reached_opened : (inputs : List Input) → IsReached (seen (play_all inputs session_before_requests).state)
reached_opened inputs = reached_from inputs session_before_requests refl

pub stops_told : (inputs : List Input)
    → shown_by (play_all inputs session_before_requests).messages
    ≡ shown_for (play_all inputs session_before_requests).state.board.run
stops_told inputs = stops_from inputs session_before_requests refl

pub run_begun : (inputs : List Input)
    → let s = (play_all inputs session_before_requests).state in has_run s.board.run
    ≡ has_begun s.settings.program
run_begun inputs = begun_runs (seen (play_all inputs session_before_requests).state) (reached_opened inputs)

pub quiet_told : (inputs : List Input) (input : Input)
    → let s = (play_all inputs session_before_requests).state in
    is_live s.settings.program ≡ false → loads input ≡ false → events_in (step input s).messages ≡ []
quiet_told inputs input = quiet_step input (play_all inputs session_before_requests).state
    (reached_opened inputs)

pub end_told : (inputs : List Input) (input : Input)
    → let s = (play_all inputs session_before_requests).state in
    ends_told (step input s).messages ≡ ends_between s.settings.program (step input s).state.settings.program
end_told inputs input = (follows_step input (play_all inputs session_before_requests).state
    (reached_opened inputs)).ends
