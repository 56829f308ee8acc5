-- What goes out, of whom and of what.
use Rattle.std.proofs.Common.{◌≡◌, ◌∙◌, ℕ, List, [], ◌∷◌, ◌++◌, Bool, true, false, Option, Some, None, Result}
use Rattle.std.proofs.Common.{Ok, Err, unwrap_or, refl, sym, ap, inl, inr}
use Rattle.std.proofs.lemmas.Bool.{cases_Bool}
use Rattle.std.proofs.lemmas.Grind.{flat_map-append}
use Rattle.std.proofs.lemmas.List.Elements.{filter_map-append}
use Rattle.std.specs.Prelude.{option_to_list}
use Rattle.std.specs.List.{filter_map}
use Rattle.base_text.specs.Bytes.{Bytes, Text}
use Rattle.asm_syntax.specs.declared.fault.AsmFault.TheVariants as asm
use Rattle.lab_core.specs.declared.answer.End.{End}
use Rattle.lab_core.specs.declared.answer.End.TheVariants as end
use Rattle.lab_shown.specs.declared.place.PlaceChange.{PlaceChange}
use Rattle.lab_core.specs.declared.answer.SliceOutcome.{SliceOutcome}
use Rattle.lab_core.specs.declared.answer.SliceOutcome.TheVariants as outcome
use Rattle.lab_core.specs.declared.fault.EventFault.{EventFault}
use Rattle.lab_core.specs.declared.fault.EventFault.TheVariants as refused
use Rattle.lab_core.specs.Board.{Board}
use Rattle.lab_core.specs.Slices.{traffic_of}
use Rattle.dap_messages.specs.declared.message.EditorEvent.{EditorEvent}
use Rattle.dap_messages.specs.declared.message.PlacedBreakpoint.{PlacedBreakpoint}
use Rattle.dap_messages.specs.declared.message.ValueFormat.{ValueFormat}
use Rattle.dap_requests.specs.declared.request.RequestContent.{RequestContent}
use Rattle.dap_requests.specs.declared.request.RequestContent.TheVariants as asked
use Rattle.dap_requests.specs.declared.request.EditorCommand.TheVariants as editor
use Rattle.dap_requests.specs.declared.request.LoadCommand.TheVariants as load
use Rattle.dap_requests.specs.declared.request.EvaluateContext.TheVariants as context
use Rattle.dap_requests.specs.declared.request.Launch.{Launch as LaunchOf}
use Rattle.dap_launch.specs.declared.load.LoadFault.{LoadFault}
use Rattle.dap_launch.specs.declared.load.LoadFault.TheVariants as fault
use Rattle.dap_run.specs.declared.messages.FollowUp.{FollowUp}
use Rattle.dap_run.specs.declared.messages.FollowUp.TheVariants as follow
use Rattle.dap_launch.specs.declared.opening.LoadReason.{LoadReason}
use Rattle.dap_launch.specs.declared.opening.LoadReason.TheVariants.{Launch, Restart}
use Rattle.dap_launch.specs.Failures.{load_event}
use Rattle.dap_launch.specs.Loading.{load_result}
use Rattle.dap_launch.specs.Openings.{changed_events, first_events, opening_events}
use Rattle.dap_messages.specs.declared.message.EditorEvent.TheVariants as unasked
use Rattle.dap_run.specs.Messages.{as_messages, event_if, events_of}
use Rattle.dap_session.specs.Slices.{slice_end_in}
use Rattle.i80_devs.specs.Console.{written_to_console}
use Rattle.dap_slice.specs.declared.logs.LogLine.{LogLine}
use Rattle.dap_slice.specs.Logs.{logs_before}
use Rattle.dap_slice.specs.SliceEnds.{change_after, ids_after}
use Rattle.lab_core.specs.declared.answer.Stop.{Stop}
use Rattle.lab_core.specs.declared.answer.Stop.TheVariants as stop
use Rattle.dap_run.specs.Slices.{events_to, log_events, console_events, line_events, outcome_events}
use Rattle.dap_run.specs.Slices.{stop_event}
use Rattle.dap_run.specs.Slices.{run_end_events, asks_line}
use Rattle.dap_run.proofs.SliceLemmas.{told-append}
use Rattle.dap_launch.specs.declared.file.FileText.{FileText}
use Rattle.dap_run.specs.declared.program.Program.{Program}
use Rattle.dap_session.specs.States.{SessionState, wants_slice}
use Rattle.dap_run.specs.declared.end.EndPolicy.{EndPolicy}
use Rattle.dap_run.specs.declared.end.EndPolicy.TheVariants.{Exit, Hold}
use Rattle.dap_launch.specs.Files.{program_text}
use Rattle.dap_run.specs.Lives.{held_ends}
use Rattle.dap_run.specs.Ends.{policy_at}
use Rattle.dap_requests.specs.declared.request.ExceptionFilters.{ExceptionFilters}
use Rattle.dap_run.specs.Programs.{program_of}
use Rattle.dap_breakpoints.specs.Reports.{all_changed}
use Rattle.dap_session.specs.Launches.{started_follow, by_text, loading, loading_as, launching_over}
use Rattle.dap_session.specs.Launches.{restarting_of}
use Rattle.dap_session.specs.Requests.{objection, asking, asking_unless, on_board, on_editor, turn}
use Rattle.dap_session.specs.Slices.{Input, request, slice, caller_of, context_of, slicing, slice_told, step}
use Rattle.dap_session.specs.Slices.{play_all}
use Rattle.dap_session.specs.Laws.{caller_in, callers_answered, request_in, callers_asking, stdout_in}
use Rattle.dap_session.specs.Laws.{console_of, written_in, written_by, all_written}

-- ---- responses

pub callers_answered-told : (es : List EditorEvent) → callers_answered (as_messages es) ≡ []
callers_answered-told [] = refl
callers_answered-told (e ∷ es) = callers_answered-told es

pub answered_slicing : (p : ℕ × SliceOutcome) (s : SessionState) → callers_answered (slicing p
    s).messages ≡ []
answered_slicing end s = callers_answered-told (events_to end (context_of s) s.board)

pub answered_sliced : (s : SessionState) → callers_answered (slice_told s).messages ≡ []
unfolding slice_told
answered_sliced s = elim (cases_Bool (wants_slice s)) [
  | inl so ↦ rw so (answered_slicing (slice_end_in 4096 s) s)
  | inr other ↦ rw other refl
]

answered_step : (input : Input) (s : SessionState)
    → callers_answered (step input s).messages ≡ callers_asking (input ∷ [])
answered_step (request r found) s =
    ap (λ rest. caller_of r ∷ rest) (callers_answered-told (turn r.asked found s).events)
answered_step slice s = answered_sliced s

pub answered_played : (inputs : List Input) (s : SessionState)
    → callers_answered (play_all inputs s).messages ≡ callers_asking inputs
answered_played [] s = refl
answered_played (input ∷ inputs) s =
    let first = step input s in
    filter_map-append caller_in first.messages (play_all inputs first.state).messages
    ∙ (ap (λ xs. xs ++ callers_answered (play_all inputs first.state).messages) (answered_step input s)
    ∙ (ap (λ xs. callers_asking (input ∷ []) ++ xs) (answered_played inputs first.state)
    ∙ sym (filter_map-append request_in (input ∷ []) inputs)))

-- ---- the console

abbrev pub shown : List EditorEvent → Bytes
shown es = console_of (as_messages es)

pub shown-append : (first second : List EditorEvent) → shown (first ++ second) ≡ shown first ++ shown second
shown-append first second =
    ap console_of (told-append first second)
    ∙ flat_map-append stdout_in (as_messages first) (as_messages second)

-- nothing of it is the console's
abbrev pub IsSilent : List EditorEvent → Type 0
IsSilent es = shown es ≡ []

pub silent-append : (first second : List EditorEvent) → IsSilent first → IsSilent second
    → IsSilent (first ++ second)
silent-append first second one two =
    shown-append first second ∙ (ap (λ xs. xs ++ shown second) one ∙ two)

silent_changes : (x y : Bool) → IsSilent (event_if x unasked.Invalidated ++ event_if y unasked.Memory)
silent_changes true true = refl
silent_changes true false = refl
silent_changes false true = refl
silent_changes false false = refl

silent_follow : (f : FollowUp) → IsSilent (events_of f)
silent_follow follow.Nothing = refl
silent_follow follow.Continued = refl
silent_follow (follow.Stopped reason) = refl
silent_follow (follow.Changed supported) = silent_changes supported.invalidated supported.memory
silent_follow (follow.Ended code) = refl

silent_changed : (points : List PlacedBreakpoint) → IsSilent (changed_events points)
silent_changed [] = refl
silent_changed (p ∷ points) = silent_changed points

silent_first : (o : LoadReason) → IsSilent (first_events o)
silent_first Launch = refl
silent_first Restart = refl

silent_opening : (o : LoadReason) (points : List PlacedBreakpoint) (f : FollowUp)
    → IsSilent (opening_events o points f)
silent_opening o points f =
    silent-append (first_events o) (changed_events points ++ events_of f) (silent_first o)
    (silent-append (changed_events points) (events_of f) (silent_changed points) (silent_follow f))

silent_refused : (path text : Text) (f : EventFault)
    → IsSilent (option_to_list (load_event path text (fault.Refused f)))
silent_refused path text (refused.Assembly (asm.At line column kind)) = refl
silent_refused path text (refused.Assembly asm.OutOfMemory) = refl
silent_refused path text _ = refl

silent_load : (path text : Text) (f : LoadFault) → IsSilent (option_to_list (load_event path text f))
silent_load path text fault.OutOfMemory = refl
silent_load path text fault.NoStart = refl
silent_load path text (fault.Refused f) = silent_refused path text f

silent_loading : (r : Result (Board × ℕ) LoadFault) (o : LoadReason) (l : LaunchOf) (text : Text)
    (s : SessionState) → IsSilent (loading_as r o l text s).events
silent_loading (Ok (b, start)) o l text s =
    let p = program_of l start in
    silent_opening o (all_changed s.settings.program s.board p s.settings.points b) (started_follow o p s)
silent_loading (Err f) o l text s = silent_load l.program text f

silent_text : (t : Result Text Text) (o : LoadReason) (l : LaunchOf) (s : SessionState)
    → IsSilent (by_text t o l s).events
silent_text (Ok text) o l s = silent_loading (load_result l text) o l text s
silent_text (Err message) o l s = refl

silent_launch : (p : Option Program) (l : LaunchOf) (found : Option FileText) (s : SessionState)
    → IsSilent (launching_over p l found s).events
silent_launch None l found s = silent_text (program_text l found) Launch l s
silent_launch (Some p) l found s = refl

silent_restart : (p : Option Program) (l : Option LaunchOf) (found : Option FileText) (s : SessionState)
    → IsSilent (restarting_of p l found s).events
silent_restart None l found s = refl
silent_restart (Some p) l found s =
    let launch = unwrap_or l p.launch in silent_text (program_text launch found) Restart launch s

silent_asking : (a : RequestContent) (found : Option FileText) (s : SessionState)
    → IsSilent (asking a found s).events
silent_asking (asked.Load (load.Launch l)) found s = silent_launch s.settings.program l found s
silent_asking (asked.Load (load.Restart l)) found s = silent_restart s.settings.program l found s
silent_asking (asked.Board c) found s = silent_follow (on_board c s).follow
silent_asking (asked.Editor c) found s = silent_follow (on_editor c s).follow
silent_asking (asked.Faulty f) found s = refl

silent_unless : (o : Option Text) (a : RequestContent) (found : Option FileText) (s : SessionState)
    → IsSilent (asking_unless o a found s).events
silent_unless (Some text) a found s = refl
silent_unless None a found s = silent_asking a found s

pub silent_turn : (a : RequestContent) (found : Option FileText) (s : SessionState)
    → IsSilent (turn a found s).events
unfolding turn
silent_turn a found s = silent_unless (objection a s) a found s

pub append-nil : (xs : Bytes) → xs ++ [] ≡ xs
append-nil [] = refl
append-nil (x ∷ xs) = ap (λ rest. x ∷ rest) (append-nil xs)

shown_console : (bytes : Bytes) → shown (console_events bytes) ≡ bytes
shown_console [] = refl
shown_console (byte ∷ bytes) = append-nil (byte ∷ bytes)

silent_line : (b : Bool) → IsSilent (line_events b)
silent_line true = refl
silent_line false = refl

silent_end : (p : EndPolicy) (e : End) → IsSilent (run_end_events p e)
silent_end Exit end.Halted = refl
silent_end Exit (end.Undefined opcode pc) = refl
silent_end Hold end.Halted = refl
silent_end Hold (end.Undefined opcode pc) = refl

silent_stop : (c : Option PlaceChange) (ids : List ℕ) (r : Stop) → IsSilent (stop_event c ids r ∷ [])
silent_stop (Some change) ids r = refl
silent_stop None ids stop.Breakpoint = refl
silent_stop None ids other = refl

silent_outcome : (p : ExceptionFilters) (c : Option PlaceChange) (ids : List ℕ) (o : SliceOutcome)
    → IsSilent (outcome_events p c ids o)
silent_outcome p c ids outcome.More = refl
silent_outcome p c ids outcome.Waiting = refl
silent_outcome p c ids (outcome.Stop reason) = silent_stop c ids reason
silent_outcome p c ids (outcome.End e) = silent_end (policy_at p e) e

shown_run : (bytes : Bytes) (asks : Bool) (es : List EditorEvent) → IsSilent es
    → shown (console_events bytes ++ (line_events asks ++ es)) ≡ bytes
shown_run bytes asks es are =
    let rest = line_events asks ++ es in
    let silent : IsSilent rest = silent-append (line_events asks) es (silent_line asks) are in
    shown-append (console_events bytes) rest
    ∙ (ap (λ xs. xs ++ shown rest) (shown_console bytes) ∙ (ap (λ xs. bytes ++ xs) silent ∙ append-nil bytes))

silent_logs : (ls : List LogLine) → IsSilent (log_events ls)
silent_logs [] = refl
silent_logs (l ∷ ls) = silent_logs ls

shown_events : (ls : List LogLine) (bytes : Bytes) (asks : Bool) (es : List EditorEvent) → IsSilent es
    → shown (log_events ls ++ (console_events bytes ++ (line_events asks ++ es))) ≡ bytes
shown_events ls bytes asks es are =
    let run = console_events bytes ++ (line_events asks ++ es) in
    shown-append (log_events ls) run
    ∙ (ap (λ xs. xs ++ shown run) (silent_logs ls) ∙ shown_run bytes asks es are)

pub shown_slicing : (p : ℕ × SliceOutcome) (s : SessionState)
    → console_of (slicing p s).messages ≡ written_in p s.board
shown_slicing (k, ending) s =
    let held = held_ends s.settings.filters s.settings.program in
    let change = change_after s.settings.conditional (k, ending) s.board in
    let ids = ids_after s.settings.conditional (k, ending) s.board in
    let traffic = traffic_of k s.board in
    shown_events (logs_before s.settings.conditional k s.board) (filter_map written_to_console traffic)
    (asks_line s.settings.has_asked k traffic) (outcome_events held change ids ending)
    (silent_outcome held change ids ending)

shown_sliced : (s : SessionState) → console_of (slice_told s).messages ≡ written_by slice s
unfolding slice_told
shown_sliced s = elim (cases_Bool (wants_slice s)) [
  | inl so ↦ rw so (shown_slicing (slice_end_in 4096 s) s)
  | inr other ↦ rw other refl
]

shown_step : (input : Input) (s : SessionState) → console_of (step input s).messages ≡ written_by input s
shown_step (request r found) s = silent_turn r.asked found s
shown_step slice s = shown_sliced s

pub shown_played : (inputs : List Input) (s : SessionState)
    → console_of (play_all inputs s).messages ≡ all_written inputs s
shown_played [] s = refl
shown_played (input ∷ inputs) s =
    let first = step input s in
    flat_map-append stdout_in first.messages (play_all inputs first.state).messages
    ∙ (ap (λ xs. xs ++ console_of (play_all inputs first.state).messages) (shown_step input s)
    ∙ ap (λ xs. written_by input s ++ xs) (shown_played inputs first.state))

-- ---- looks

kept_unless : (o : Option Text) (expression : Text)
    (format : ValueFormat) (found : Option FileText) (s : SessionState)
    → (asking_unless o (asked.Editor (editor.Evaluate expression context.Other format)) found s).state.board
    ≡ s.board
kept_unless (Some text) expression format found s = refl
kept_unless None expression format found s = refl

pub kept_look : (expression : Text) (format : ValueFormat) (found : Option FileText) (s : SessionState)
    → (turn (asked.Editor (editor.Evaluate expression context.Other format)) found s).state.board ≡ s.board
unfolding turn
kept_look expression format found s =
    kept_unless (objection (asked.Editor (editor.Evaluate expression context.Other format)) s) expression
    format found s
