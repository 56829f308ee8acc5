-- What recorded sessions tell of stops.
use Rattle.std.proofs.Common.{◌≡◌, ◌∙◌, ◌+◌, ℕ, zero, List, [], ◌∷◌, ◌++◌, Bool, true, false, not, ◌&&◌}
use Rattle.std.proofs.Common.{Option, Some, None, Ok, Err, option_map, fold, refl, sym, ap, subst, true≢false}
use Rattle.std.proofs.Common.{add-zero}
use Rattle.std.proofs.lemmas.Bool.{and_parts}
use Rattle.std.proofs.lemmas.List.Sums.{fold-append, sum_by-append}
use Rattle.lab_core.specs.declared.answer.SliceOutcome.{SliceOutcome}
use Rattle.lab_core.specs.declared.run_state.RunState.{RunState}
use Rattle.lab_core.specs.declared.run_state.RunState.TheVariants.{NoRun, Running, Stopped}
use Rattle.lab_core.specs.Board.{Board}
use Rattle.lab_core.specs.Events.{EventResult}
use Rattle.dap_answers.specs.declared.answer.StopReason.TheVariants.{Pause as ByPause, Step as ByStep}
use Rattle.dap_messages.specs.declared.message.EditorEvent.{EditorEvent}
use Rattle.dap_messages.specs.declared.message.EditorEvent.TheVariants as event
use Rattle.dap_messages.specs.declared.message.EditorStop.{EditorStop}
use Rattle.dap_messages.specs.declared.message.EditorStop.TheVariants.{Board as AtBoard, Entry}
use Rattle.dap_messages.specs.declared.message.Message.{Message}
use Rattle.dap_messages.specs.declared.message.Message.TheVariants as message
use Rattle.dap_requests.specs.declared.request.EditorCommand.TheVariants as editor
use Rattle.dap_requests.specs.declared.request.EvaluateContext.TheVariants as context
use Rattle.dap_requests.specs.declared.request.RequestContent.{RequestContent}
use Rattle.dap_requests.specs.declared.request.RequestContent.TheVariants as asked
use Rattle.dap_prompt.specs.Inputs.{as_meant}
use Rattle.dap_search.specs.declared.goal.Goal.{Goal}
use Rattle.dap_search.specs.declared.goal.Goal.TheVariants.{Statement, Breakpoint, Count}
use Rattle.dap_search.specs.Goals.{is_goal}
use Rattle.dap_history.specs.declared.input.Input.{Input as RunInput}
use Rattle.dap_history.specs.declared.input.Input.TheVariants as input
use Rattle.dap_history.specs.declared.input.Recorded.{Recorded}
use Rattle.dap_history.specs.Logs.{up_to}
use Rattle.dap_history.specs.Runs.{board_of, after_input, board_at}
use Rattle.dap_launch.specs.declared.file.FileText.{FileText}
use Rattle.dap_run.specs.declared.program.Phase.{Phase}
use Rattle.dap_run.specs.declared.program.Phase.TheVariants as phase
use Rattle.dap_run.specs.declared.program.Program.{Program}
use Rattle.dap_run.specs.Lives.{is_over, is_live, released_phase, released_program}
use Rattle.dap_run.specs.Messages.{as_messages}
use Rattle.dap_session.specs.Slices.{slice_end_in}
use Rattle.dap_run.proofs.SliceLemmas.{told-append}
use Rattle.dap_session.specs.States.{SessionState, is_running, wants_slice}
use Rattle.dap_session.specs.Memory.{is_stopped}
use Rattle.dap_session.specs.Rewinds.{is_debugged, can_go_back, held_at, put_to, after_search}
use Rattle.dap_slice.specs.declared.conditions.ConditionalBreakpoint.{ConditionalBreakpoint}
use Rattle.dap_slice.specs.Counts.{without_hits}
use Rattle.dap_search.specs.Recounts.{without_hits_between}
use Rattle.dap_session.specs.Slices.{slicing}
use Rattle.dap_session.specs.Laws.{Shown, shown_after, shown_by, shown_for, ends_in, ends_told}
use Rattle.dap_session.specs.Laws.{has_run, has_begun, is_begun, events_in, asks_to_load}
use Rattle.dap_laws.proofs.BoardLemmas.{SameRun, KeepsRun, kept_press}
use Rattle.dap_laws.proofs.RunLemmas.{Seen, seen, seen_board, PhaseFits, ProgramFits, IsReached, Follows}
use Rattle.dap_laws.proofs.RunLemmas.{ended_count, none_ended, still, IsCalm, lively, begun_runs}
use Rattle.dap_laws.proofs.SessionStopLemmas.{follows_turn, follows_slicing, follows_sliced, running_has}
use Rattle.dap_laws.proofs.SessionStopLemmas.{quiet_turn, quiet_sliced}
use Rattle.dap_record.specs.Recordings.{Recording, RecordedState, recorded_before_requests, input_made}
use Rattle.dap_record.specs.Recordings.{forgets_by, is_behind, inputs_ahead, after_inputs}
use Rattle.dap_slice.specs.Stops.{back_ids}
use Rattle.dap_record.specs.Backward.{found_by, found_event, met_or_entry, stop_at_count}
use Rattle.dap_record.specs.Turns.{RecordedTurn, recorded_turn, forgotten_events, count_of, turn_of, turn}
use Rattle.dap_record.specs.Slices.{RecordedTold, new_messages, recorded_slice, slice_limit}
use Rattle.dap_record.specs.Slices.{slice_told, Input, request, slice, step, play_all, meant_by}
use Rattle.dap_laws.specs.Recorded.{after_all, IsRecordingOfIf, loads, EndsAreTold}
use Rattle.dap_laws.proofs.CaseLemmas.{turn_for, of_turn, of_back, of_slice}
use Rattle.dap_laws.proofs.RecordingLemmas.{recording_in, recording_step}
use Rattle.dap_laws.proofs.HoldLemmas.{IsHeldIf, held_in, held_step}

-- ---- what the messages without output tell

shown_filtered : (d : Shown) (ms : List Message)
    → fold shown_after d (new_messages true ms) ≡ fold shown_after d ms
shown_filtered d [] = refl
shown_filtered d (message.Response r ∷ ms) = shown_filtered d ms
shown_filtered d (message.Event (event.Output category bytes place) ∷ ms) = shown_filtered d ms
shown_filtered d (message.Event e ∷ ms) = shown_filtered (shown_after d (message.Event e)) ms

one_more : (m : Message) (ms ns : List Message) → ends_told ms ≡ ends_told ns
    → ends_told (m ∷ ms) ≡ ends_told (m ∷ ns)
one_more m ms ns same =
    sum_by-append ends_in (m ∷ []) ms
    ∙ (ap (λ n. ends_told (m ∷ []) + n) same ∙ sym (sum_by-append ends_in (m ∷ []) ns))

ended_filtered : (ms : List Message) → ends_told (new_messages true ms) ≡ ends_told ms
ended_filtered [] = refl
ended_filtered (message.Response r ∷ ms) = ended_filtered ms
ended_filtered (message.Event (event.Output category bytes place) ∷ ms) = ended_filtered ms
ended_filtered (message.Event e ∷ ms) =
    one_more (message.Event e) (new_messages true ms) ms (ended_filtered ms)

follows_new : (behind : Bool) (ms : List Message) (v w : Seen) → Follows v ms w
    → Follows v (new_messages behind ms) w
follows_new true ms v w follows = record {
  reached = follows.reached;
  stops = shown_filtered (shown_for v.run) ms ∙ follows.stops;
  ends = ended_filtered ms ∙ follows.ends;
}
follows_new false ms v w follows = follows

-- ---- what is told last

calm_last : (first second : List EditorEvent) (v w : Seen) → Follows v (as_messages first) w → IsCalm second
    → Follows v (as_messages (first ++ second)) w
calm_last first second v w follows calm =
    let d = shown_for v.run in
    record {
      reached = follows.reached;
      stops =
          ap (λ ms. fold shown_after d ms) (told-append first second)
          ∙ (fold-append shown_after d (as_messages first) (as_messages second)
          ∙ (calm.stops (fold shown_after d (as_messages first)) ∙ follows.stops));
      ends =
          ap ends_told (told-append first second)
          ∙ (sum_by-append ends_in (as_messages first) (as_messages second)
          ∙ (ap (λ n. ends_told (as_messages first) + n) calm.ends ∙ (add-zero _ ∙ follows.ends)));
    }

calm_forgotten : (forgets : Bool) (count : ℕ) → IsCalm (forgotten_events forgets count)
calm_forgotten true count = record { stops = λ d. refl; ends = refl }
calm_forgotten false count = record { stops = λ d. refl; ends = refl }

-- ---- a run that is put back

phase_fits : (h : Phase) (run : RunState) (c : Bool) → PhaseFits h run c → is_begun h ≡ true
    → PhaseFits (released_phase h) Stopped c
phase_fits phase.Loaded run c fits is = absurd (true≢false (sym is))
phase_fits phase.Begun run c fits is = (refl, fits.1)
phase_fits (phase.Held how) run c fits is = (refl, fits.1)
phase_fits phase.Over run c fits is = absurd (true≢false (sym is))

program_fits : (o : Option Program) (run : RunState) (a c : Bool) → ProgramFits o run a c
    → (has_run run && (has_begun o && is_debugged o)) ≡ true
    → ProgramFits (option_map released_program o) Stopped true c
program_fits None run a c fits can = absurd (true≢false (sym (and_parts (has_run run) false can).1))
program_fits (Some p) run a c fits can =
    let known = and_parts (is_begun p.phase) p.launch.is_debugged
    (and_parts (has_run run) (is_begun p.phase && p.launch.is_debugged) can).1 in
    (sym known.1, phase_fits p.phase run c fits.1 known.0)

live_phase : (h : Phase) → not (is_over (released_phase h)) ≡ not (is_over h)
live_phase phase.Loaded = refl
live_phase phase.Begun = refl
live_phase (phase.Held how) = refl
live_phase phase.Over = refl

live_program : (o : Option Program) → is_live (option_map released_program o) ≡ is_live o
live_program None = refl
live_program (Some p) = live_phase p.phase

none_ends : (o : Option Program)
    → zero ≡ ended_count (is_live o) (is_live (option_map released_program o))
none_ends o = none_ended (is_live o) ∙ ap (ended_count (is_live o)) (sym (live_program o))

-- it tells an editor that the run is stopped, and of no end
record TellsStop (e : EditorEvent) : Type 0 where
  stops : (d : Shown) → shown_after d (message.Event e) ≡ shown_for Stopped
  ends : ends_told (message.Event e ∷ []) ≡ zero

-- as of a request that knows the count
tells_why : (why : EditorStop) → TellsStop (event.Stopped why)
tells_why why = record { stops = λ d. refl; ends = refl }

-- or of a search
tells_found : (goal : Goal) (s : SessionState) → TellsStop (found_event goal s)
tells_found (Statement depth) s = tells_why (AtBoard ByStep)
tells_found (Count count) s = tells_why (AtBoard ByStep)
tells_found Breakpoint s =
    by (is_goal s.settings.conditional Breakpoint s.board) (back_ids s.settings.conditional s.board)
  where
    by : (is : Bool) (ids : List ℕ) → TellsStop (met_or_entry is ids)
    by true ids = record { stops = λ d. refl; ends = refl }
    by false ids = tells_why Entry

-- and so it is told
follows_put : (e : EditorEvent) (was : Board) (points : List ConditionalBreakpoint) (s : SessionState)
    → TellsStop e → IsReached (seen s) → can_go_back s ≡ true
    → Follows (seen s) (as_messages (e ∷ [])) (seen (put_to was points s))
follows_put e was points s tells reached can = record {
  reached = program_fits s.settings.program s.board.run s.board.is_attached s.settings.is_configured reached
      can;
  stops = tells.stops (shown_for s.board.run);
  ends = tells.ends ∙ none_ends s.settings.program;
}

-- or nothing, of one that is stopped already
follows_held : (was : Board) (s : SessionState) → IsReached (seen s) → can_go_back s ≡ true
    → s.board.run ≡ Stopped → Follows (seen s) [] (seen (held_at was s))
follows_held was s reached can is = record {
  reached = program_fits s.settings.program s.board.run s.board.is_attached s.settings.is_configured reached
      can;
  stops = ap shown_for is;
  ends = none_ends s.settings.program;
}

follows_paused : (why : EditorStop) (s : SessionState) → IsReached (seen s) → s.board.run ≡ Stopped
    → Follows (seen s) (as_messages (event.Stopped why ∷ [])) (seen s)
follows_paused why s reached is = record {
  reached = reached;
  stops = sym (ap shown_for is);
  ends = none_ended (is_live s.settings.program);
}

run_stopped : (r : RunState) → is_stopped r ≡ true → r ≡ Stopped
run_stopped NoRun is = absurd (true≢false (sym is))
run_stopped Running is = absurd (true≢false (sym is))
run_stopped Stopped is = refl

-- ---- requests

-- what is known of a session
pub record Stands (v : RecordedState) : Type 0 where
  pub recording : IsRecordingOfIf v.recording v.session
  pub held : IsHeldIf v.search v.session
  pub reached : IsReached (seen v.session)

follows_onward : (a : RequestContent) (found : Option FileText) (v : RecordedState) → Stands v
    → Follows (seen v.session) (as_messages (recorded_turn a v (turn_for a found v)).events)
    (seen (turn_for a found v).state)
follows_onward a found v stands =
    let forgets = forgets_by (input_made a v.session (turn_for a found v)) v.recording in
    calm_last (turn_for a found v).events (forgotten_events forgets (count_of v.recording)) _ _
    (follows_turn a found v.session stands.reached) (calm_forgotten forgets (count_of v.recording))

follows_asked : (a : RequestContent) (found : Option FileText) (v : RecordedState) → Stands v
    → Follows (seen v.session) (as_messages (turn a found v).events) (seen (turn a found v).state.session)
follows_asked a found v stands =
    let s = v.session in
    of_turn (λ (t : RecordedTurn). Follows (seen v.session) (as_messages t.events) (seen t.state.session))
    a found v (record {
      onward = λ none is. follows_onward a found v stands;
      back = λ c none is.
          of_back (λ r. Follows (seen v.session) (as_messages (turn_of r).events)
          (seen (turn_of r).state.session)) c v (record {
            refused = λ text. (still s s stands.reached refl).follows;
            arrives = λ by r count on can within.
                follows_put (event.Stopped (stop_at_count by)) (board_at r.start r.log count)
                (without_hits s.settings.conditional) s
                (tells_why (stop_at_count by)) stands.reached can;
            searches = λ goal by r on can halted.
                follows_held (board_at r.start r.log r.count) s stands.reached can
                (run_stopped s.board.run halted);
          });
      look = λ goal on is. follows_turn a found s stands.reached;
      pause = λ goal on is.
          follows_paused (AtBoard ByPause) s stands.reached (held_in v goal on stands.held).run;
      ends = λ goal on is. follows_onward a found v stands;
      other = λ goal on is. (still s s stands.reached refl).follows;
    })

-- ---- slices

kept_of : (g : EventResult) (b : Board) → KeepsRun b g → SameRun b (board_of b g)
kept_of (Ok (a, b')) b kept = kept
kept_of (Err f) b kept = record { run = refl; is_attached = refl }

kept_input : (i : RunInput) (b : Board) → SameRun b (after_input i b)
kept_input (input.Typed bytes) b = record { run = refl; is_attached = refl }
kept_input (input.Switches byte) b = record { run = refl; is_attached = refl }
kept_input (input.Press n) b = kept_of _ b (kept_press n b)
kept_input (input.Registers registers) b = record { run = refl; is_attached = refl }
kept_input (input.Write address bytes) b = record { run = refl; is_attached = refl }

kept_inputs : (inputs : List Recorded) (b : Board) → SameRun b (after_inputs inputs b)
kept_inputs [] b = record { run = refl; is_attached = refl }
kept_inputs (r ∷ rs) b =
    let first = kept_input r.input b in
    let rest = kept_inputs rs (after_input r.input b) in
    record { run = rest.run ∙ first.run; is_attached = rest.is_attached ∙ first.is_attached }

follows_recorded : (p : ℕ × SliceOutcome) (r : Recording) (s : SessionState) → IsReached (seen s)
    → wants_slice s ≡ true
    → Follows (seen s) (recorded_slice p r s).messages (seen (recorded_slice p r s).state.session)
follows_recorded p r s reached wants =
    let t = slicing p s in
    let has = running_has s.board.run (and_parts (is_running s.board.run) (not s.settings.waits) wants).0 in
    let due = up_to (r.count + p.0) (inputs_ahead r) in
    subst (λ w. Follows (seen s) (new_messages (is_behind r) t.messages) w)
    (sym (seen_board (after_inputs due t.state.board) t.state (kept_inputs due t.state.board)))
    (follows_new (is_behind r) t.messages (seen s) (seen t.state) (follows_slicing p s reached has))

follows_slice : (finds : Bool) (v : RecordedState) → Stands v
    → Follows (seen v.session) (slice_told finds v).messages (seen (slice_told finds v).state.session)
follows_slice finds v stands =
    let s = v.session in
    of_slice (λ (t : RecordedTold). Follows (seen v.session) t.messages (seen t.state.session)) finds v
    (record {
      idles = λ none is. (still s s stands.reached refl).follows;
      plain = λ none is wants. follows_sliced s stands.reached;
      recorded = λ r none is wants.
          follows_recorded (slice_end_in (slice_limit r) s) r s stands.reached wants;
      searches = λ goal on. (still s s stands.reached refl).follows;
      finds = λ goal r on is.
          let was = board_at r.start r.log (found_by goal r s) in
          let count = found_by goal r s in
          let there = after_search r.start r.log r.count count s in
          let points = without_hits_between s.settings.conditional r.start r.log s.board count r.count in
          follows_put (found_event goal there) was points s (tells_found goal there)
          stands.reached (recording_in v r is stands.recording).can;
    })

-- ---- sessions

follows_step : (input : Input) (v : RecordedState) → Stands v
    → Follows (seen v.session) (step input v).messages (seen (step input v).state.session)
follows_step (request r found) v stands =
    let follows = follows_asked (meant_by r v) found v stands in
    record { reached = follows.reached; stops = follows.stops; ends = follows.ends }
follows_step (slice finds) v stands = follows_slice finds v stands

stands_step : (input : Input) (v : RecordedState) → Stands v → Stands (step input v).state
stands_step input v stands = record {
  recording = recording_step input v stands.recording;
  held = held_step input v stands.held;
  reached = (follows_step input v stands).reached;
}

stops_from : (inputs : List Input) (v : RecordedState) → Stands v
    → fold shown_after (shown_for v.session.board.run) (play_all inputs v).messages
    ≡ shown_for (play_all inputs v).state.session.board.run
stops_from [] v stands = refl
stops_from (input ∷ inputs) v stands =
    let first = step input v in
    let rest = play_all inputs first.state in
    fold-append shown_after (shown_for v.session.board.run) first.messages rest.messages
    ∙ (ap (λ d. fold shown_after d rest.messages) (follows_step input v stands).stops
    ∙ stops_from inputs first.state (stands_step input v stands))

stands_from : (inputs : List Input) (v : RecordedState) → Stands v → Stands (play_all inputs v).state
stands_from [] v stands = stands
stands_from (input ∷ inputs) v stands = stands_from inputs (step input v).state (stands_step input v stands)

opened : Stands recorded_before_requests
opened = record { recording = tt; held = tt; reached = refl }

pub stops_told : (inputs : List Input)
    → shown_by (play_all inputs recorded_before_requests).messages
    ≡ shown_for (after_all inputs).session.board.run
stops_told inputs = stops_from inputs recorded_before_requests opened

-- ---- without a live program

-- a run that can go back is that of one
never_back : {A : Type 0} (s : SessionState) → IsReached (seen s) → is_live s.settings.program ≡ false
    → can_go_back s ≡ true → A
never_back s reached dead can =
    let begun = has_begun s.settings.program && is_debugged s.settings.program in
    let has = (and_parts (has_run s.board.run) begun can).0 in
    absurd (true≢false (sym (lively (seen s) reached has) ∙ dead))

none_recorded : (o : Option Recording) (s : SessionState) → IsRecordingOfIf o s → IsReached (seen s)
    → is_live s.settings.program ≡ false → o ≡ None
none_recorded None s of reached dead = refl
none_recorded (Some r) s of reached dead = never_back s reached dead of.can

none_forgotten : (i : Option RunInput) (count : ℕ) → forgotten_events (forgets_by i None) count ≡ []
none_forgotten None count = refl
none_forgotten (Some i) count = refl

quiet_onward : (a : RequestContent) (found : Option FileText) (v : RecordedState) → Stands v
    → is_live v.session.settings.program ≡ false → asks_to_load a ≡ false
    → (recorded_turn a v (turn_for a found v)).events ≡ []
quiet_onward a found v stands dead is =
    let i = input_made a v.session (turn_for a found v) in
    let none = none_recorded v.recording v.session stands.recording stands.reached dead in
    ap (λ es. es ++ forgotten_events (forgets_by i v.recording) (count_of v.recording))
    (quiet_turn a found v.session stands.reached dead is)
    ∙ (ap (λ o. forgotten_events (forgets_by i o) (count_of o)) none ∙ none_forgotten i 0)

quiet_asked : (a : RequestContent) (found : Option FileText) (v : RecordedState) → Stands v
    → is_live v.session.settings.program ≡ false → asks_to_load a ≡ false → (turn a found v).events ≡ []
quiet_asked a found v stands dead is =
    of_turn (λ (t : RecordedTurn). t.events ≡ []) a found v (record {
      onward = λ none back. quiet_onward a found v stands dead is;
      back = λ c none back. of_back (λ r. (turn_of r).events ≡ []) c v (record {
        refused = λ text. refl;
        arrives = λ by r count on can within. never_back v.session stands.reached dead can;
        searches = λ goal by r on can halted. refl;
      });
      look = λ goal on look. quiet_turn a found v.session stands.reached dead is;
      pause = λ goal on pause.
          never_back v.session stands.reached dead (held_in v goal on stands.held).can;
      ends = λ goal on ends. quiet_onward a found v stands dead is;
      other = λ goal on other. refl;
    })

quiet_slice : (finds : Bool) (v : RecordedState) → Stands v → is_live v.session.settings.program ≡ false
    → events_in (slice_told finds v).messages ≡ []
quiet_slice finds v stands dead =
    of_slice (λ (t : RecordedTold). events_in t.messages ≡ []) finds v (record {
      idles = λ none isn't. refl;
      plain = λ none is wants. quiet_sliced v.session stands.reached dead;
      recorded = λ r none is wants.
          never_back v.session stands.reached dead (recording_in v r is stands.recording).can;
      searches = λ goal on. refl;
      finds = λ goal r on is.
          never_back v.session stands.reached dead (recording_in v r is stands.recording).can;
    })

-- what is meant loads a program if what is asked does
meant_loads : (has_commands : Bool) (a : RequestContent) → asks_to_load (as_meant has_commands a)
    ≡ asks_to_load a
meant_loads false a = refl
meant_loads true (asked.Load c) = refl
meant_loads true (asked.Board c) = refl
meant_loads true (asked.Faulty fault) = refl
meant_loads true (asked.Editor (editor.Evaluate line context.Repl format)) = refl
meant_loads true (asked.Editor (editor.Evaluate line context.Watch format)) = refl
meant_loads true (asked.Editor (editor.Evaluate line context.Other format)) = refl
meant_loads true (asked.Editor c) = refl

quiet_step : (input : Input) (v : RecordedState) → Stands v → is_live v.session.settings.program ≡ false
    → loads input ≡ false → events_in (step input v).messages ≡ []
quiet_step (request r found) v stands dead is =
    ap (λ es. events_in (as_messages es))
    (quiet_asked (meant_by r v) found v stands dead (meant_loads _ r.asked ∙ is))
quiet_step (slice finds) v stands dead is = quiet_slice finds v stands dead

pub ends_told_so : (inputs : List Input) → EndsAreTold (after_all inputs)
ends_told_so inputs =
    let v = after_all inputs in
    let stands = stands_from inputs recorded_before_requests opened in
    record {
      run = begun_runs (seen v.session) stands.reached;
      quiet = λ input dead is. quiet_step input v stands dead is;
      end = λ input. (follows_step input v stands).ends;
    }
