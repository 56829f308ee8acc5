-- What goes out, of whom and of what.
use Rattle.std.proofs.Common.{◌≡◌, ◌∙◌, ◌≤◌, ◌-◌, ℕ, List, [], ◌∷◌, ◌++◌, Bool, true, false, Option}
use Rattle.std.proofs.Common.{refl, sym, ap, arith}
use Rattle.std.proofs.lemmas.Bool.Decides.{nat_tests}
use Rattle.std.proofs.lemmas.Grind.{flat_map-append}
use Rattle.std.proofs.lemmas.List.Elements.{filter_map-append}
use Rattle.base_text.specs.Bytes.{Bytes}
use Rattle.lab_core.specs.declared.answer.SliceOutcome.{SliceOutcome}
use Rattle.lab_core.specs.Board.{Board}
use Rattle.lab_core.specs.Slices.{after_steps}
use Rattle.dap_session.specs.Slices.{slice_end_in}
use Rattle.dap_slice.proofs.SliceLemmas.{end_within}
use Rattle.dap_messages.specs.declared.message.EditorEvent.TheVariants as event
use Rattle.dap_messages.specs.declared.message.Message.{Message}
use Rattle.dap_messages.specs.declared.message.Message.TheVariants as message
use Rattle.dap_requests.specs.declared.request.RequestContent.{RequestContent}
use Rattle.dap_search.specs.declared.goal.Goal.{Goal}
use Rattle.dap_search.specs.declared.goal.Goal.TheVariants.{Statement, Breakpoint, Count}
use Rattle.dap_search.specs.Goals.{is_goal}
use Rattle.dap_slice.specs.Stops.{back_ids}
use Rattle.dap_launch.specs.declared.file.FileText.{FileText}
use Rattle.dap_run.specs.Messages.{as_messages}
use Rattle.dap_session.specs.States.{SessionState, wants_slice}
use Rattle.dap_session.specs.Slices as session
use Rattle.dap_session.specs.Slices.{caller_of, slicing}
use Rattle.dap_session.specs.Laws.{caller_in, callers_answered, stdout_in, console_of, written_in}
use Rattle.dap_laws.proofs.SessionTellLemmas.{callers_answered-told, answered_slicing, answered_sliced}
use Rattle.dap_laws.proofs.SessionTellLemmas.{IsSilent, silent-append, silent_turn, shown_slicing}
use Rattle.dap_record.specs.Recordings.{Recording, RecordedState, input_made, forgets_by, is_behind}
use Rattle.dap_record.specs.Backward.{found_event, met_or_entry}
use Rattle.dap_record.specs.Turns.{RecordedTurn, forgotten_events, count_of, turn_of, turn}
use Rattle.dap_record.specs.Slices.{RecordedTold, new_messages, steps_to, slice_limit, slice_told, Input}
use Rattle.dap_record.specs.Slices.{found_from, request, slice, step, play_all, meant_by}
use Rattle.dap_laws.specs.Recorded.{request_in, callers_asking, written_by, all_written}
use Rattle.dap_laws.proofs.CaseLemmas.{turn_for, of_turn, of_back, of_slice}

-- ---- responses

-- without output the same is answered
answered_filtered : (ms : List Message)
    → callers_answered (new_messages true ms) ≡ callers_answered ms
answered_filtered [] = refl
answered_filtered (message.Response r ∷ ms) =
    ap (λ rest. callers_answered (message.Response r ∷ []) ++ rest) (answered_filtered ms)
answered_filtered (message.Event (event.Output category bytes place) ∷ ms) = answered_filtered ms
answered_filtered (message.Event e ∷ ms) = answered_filtered ms

answered_new : (behind : Bool) (p : ℕ × SliceOutcome) (s : SessionState)
    → callers_answered (new_messages behind (slicing p s).messages) ≡ []
answered_new true p s = answered_filtered (slicing p s).messages ∙ answered_slicing p s
answered_new false p s = answered_slicing p s

answered_slice : (finds : Bool) (v : RecordedState) → callers_answered (slice_told finds v).messages ≡ []
answered_slice finds v =
    of_slice (λ (t : RecordedTold). callers_answered t.messages ≡ []) finds v (record {
      idles = λ none is. refl;
      plain = λ none is wants. answered_sliced v.session;
      recorded = λ r none is wants.
          answered_new (is_behind r) (slice_end_in (slice_limit r) v.session) v.session;
      searches = λ goal on. refl;
      finds = λ goal r on is. refl;
    })

answered_step : (input : Input) (v : RecordedState)
    → callers_answered (step input v).messages ≡ callers_asking (input ∷ [])
answered_step (request r found) v =
    ap (λ rest. caller_of r ∷ rest) (callers_answered-told (turn (meant_by r v) found v).events)
answered_step (slice finds) v = answered_slice finds v

pub answered_played : (inputs : List Input) (v : RecordedState)
    → callers_answered (play_all inputs v).messages ≡ callers_asking inputs
answered_played [] v = refl
answered_played (input ∷ inputs) v =
    let first = step input v in
    let rest = play_all inputs first.state in
    filter_map-append caller_in first.messages rest.messages
    ∙ (ap (λ xs. xs ++ callers_answered rest.messages) (answered_step input v)
    ∙ (ap (λ xs. callers_asking (input ∷ []) ++ xs) (answered_played inputs first.state)
    ∙ sym (filter_map-append request_in (input ∷ []) inputs)))

-- ---- the console

silent_forgotten : (forgets : Bool) (count : ℕ) → IsSilent (forgotten_events forgets count)
silent_forgotten true count = refl
silent_forgotten false count = refl

silent_onward : (a : RequestContent) (found : Option FileText) (v : RecordedState)
    → IsSilent ((turn_for a found v).events ++ forgotten_events
    (forgets_by (input_made a v.session (turn_for a found v)) v.recording) (count_of v.recording))
silent_onward a found v =
    let forgets = forgets_by (input_made a v.session (turn_for a found v)) v.recording in
    silent-append (turn_for a found v).events (forgotten_events forgets (count_of v.recording))
    (silent_turn a found v.session) (silent_forgotten forgets (count_of v.recording))

silent_request : (a : RequestContent) (found : Option FileText) (v : RecordedState)
    → IsSilent (turn a found v).events
silent_request a found v =
    of_turn (λ (t : RecordedTurn). IsSilent t.events) a found v (record {
      onward = λ none is. silent_onward a found v;
      back = λ c none is. of_back (λ r. IsSilent (turn_of r).events) c v (record {
        refused = λ text. refl;
        arrives = λ c r count is can within. refl;
        searches = λ goal c r is can stopped. refl;
      });
      look = λ goal on is. silent_turn a found v.session;
      pause = λ goal on is. refl;
      ends = λ goal on is. silent_onward a found v;
      other = λ goal on is. refl;
    })

-- without output nothing is the console's
silent_filtered : (ms : List Message) → console_of (new_messages true ms) ≡ []
silent_filtered [] = refl
silent_filtered (message.Response r ∷ ms) = silent_filtered ms
silent_filtered (message.Event (event.Output category bytes place) ∷ ms) = silent_filtered ms
silent_filtered (message.Event e ∷ ms) = silent_filtered ms

-- what a slice writes after the steps that are made again
abbrev written_behind : ℕ → ℕ × SliceOutcome → Board → Bytes
written_behind again p b = written_in (p.0 - again, p.1) (after_steps again b)

written_new : (behind : Bool) (r : Recording) (p : ℕ × SliceOutcome) (s : SessionState)
    → is_behind r ≡ behind → p.0 ≤ slice_limit r
    → console_of (new_messages behind (slicing p s).messages)
    ≡ written_behind (r.told - r.count) p s.board
written_new true r p s is few =
    let gap : steps_to r.count r.told ≡ r.told - r.count = rw is refl in
    let none : p.0 - (r.told - r.count) ≡ 0 = omega (arith, few, gap) in
    silent_filtered (slicing p s).messages
    ∙ ap (λ k. written_in (k, p.1) (after_steps (r.told - r.count) s.board)) (sym none)
written_new false r p s isn't few =
    let none : r.told - r.count ≡ 0 = grind (arith, nat_tests) in
    let all : p.0 - 0 ≡ p.0 = omega arith in
    shown_slicing p s
    ∙ (ap (λ k. written_in (k, p.1) s.board) (sym all)
    ∙ ap (λ again. written_behind again p s.board) (sym none))

written_plain : (s : SessionState) → wants_slice s ≡ true
    → console_of (session.slice_told s).messages ≡ written_in (slice_end_in 4096 s) s.board
unfolding session.slice_told
written_plain s wants = rw wants (shown_slicing (slice_end_in 4096 s) s)

-- where a search ends nothing is written
silent_found : (goal : Goal) (s : SessionState) → console_of (as_messages (found_event goal s ∷ [])) ≡ []
silent_found (Statement depth) s = refl
silent_found (Count count) s = refl
silent_found Breakpoint s =
    by (is_goal s.settings.conditional Breakpoint s.board) (back_ids s.settings.conditional s.board)
  where
    by : (is : Bool) (ids : List ℕ) → console_of (as_messages (met_or_entry is ids ∷ [])) ≡ []
    by true ids = refl
    by false ids = refl

written_slice : (finds : Bool) (v : RecordedState)
    → console_of (slice_told finds v).messages ≡ written_by (slice finds) v
written_slice finds v =
    of_slice (λ (t : RecordedTold). console_of t.messages ≡ written_by (slice finds) v) finds v (record {
      idles = λ none isn't. rw (none, isn't) refl;
      plain = λ none is wants. rw (none, wants, is) (written_plain v.session wants);
      recorded = λ r none is wants. rw (none, wants, is)
          (written_new (is_behind r) r (slice_end_in (slice_limit r) v.session) v.session refl
          (end_within v.session.settings.conditional (slice_limit r) v.session.board));
      searches = λ goal on. rw on refl;
      finds = λ goal r on is. rw on
          (silent_found goal (found_from r goal v.session).state.session);
    })

written_step : (input : Input) (v : RecordedState) → console_of (step input v).messages ≡ written_by input v
written_step (request r found) v = silent_request (meant_by r v) found v
written_step (slice finds) v = written_slice finds v

pub written_played : (inputs : List Input) (v : RecordedState)
    → console_of (play_all inputs v).messages ≡ all_written inputs v
written_played [] v = refl
written_played (input ∷ inputs) v =
    let first = step input v in
    let rest = play_all inputs first.state in
    flat_map-append stdout_in first.messages rest.messages
    ∙ (ap (λ xs. xs ++ console_of rest.messages) (written_step input v)
    ∙ ap (λ xs. written_by input v ++ xs) (written_played inputs first.state))
