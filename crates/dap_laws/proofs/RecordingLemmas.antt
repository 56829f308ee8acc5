-- The board is the recorded run's after so many steps.
use Rattle.std.proofs.Common.{◌≡◌, ◌∙◌, ◌≤◌, ℕ, List, [], ◌∷◌, ◌++◌, Bool, true, false}
use Rattle.std.proofs.Common.{Option, Some, None, if◌then◌else◌, refl, sym, ap, subst, arith}
use Rattle.std.specs.Prelude.{option_and_then}
use Rattle.lab_core.specs.declared.answer.SliceOutcome.{SliceOutcome}
use Rattle.lab_core.specs.Slices.{after_steps}
use Rattle.dap_slice.proofs.SliceLemmas.{end_within}
use Rattle.dap_requests.specs.declared.request.RequestContent.{RequestContent}
use Rattle.dap_history.specs.declared.input.Input.{Input as RunInput}
use Rattle.dap_history.specs.Logs.{up_to}
use Rattle.dap_history.specs.Runs.{after_input, board_at}
use Rattle.dap_history.proofs.LogLemmas.{ascends-up_to, ascends-push, latest-up_to}
use Rattle.dap_history.proofs.RunLemmas.{at_up_to}
use Rattle.dap_launch.specs.declared.file.FileText.{FileText}
use Rattle.dap_run.specs.Lives.{held_ends}
use Rattle.dap_prompt.specs.Inputs.{after_input_if, is_success}
use Rattle.dap_session.specs.States.{SessionState, with_waits}
use Rattle.dap_session.specs.Rewinds.{can_go_back, held_at, put_to}
use Rattle.dap_slice.specs.declared.conditions.ConditionalBreakpoint.{ConditionalBreakpoint}
use Rattle.dap_slice.specs.Counts.{without_hits}
use Rattle.dap_session.specs.Slices.{slicing}
use Rattle.dap_session.specs.Laws.{SameParts, asks_to_load}
use Rattle.dap_record.specs.Recordings.{Recording, RecordedState, recorded_before_requests, new_recording}
use Rattle.dap_record.specs.Recordings.{kept_while, with_input_if, is_full, begins, input_made}
use Rattle.dap_record.specs.Recordings.{recording_after}
use Rattle.dap_record.specs.Backward.{found_by}
use Rattle.dap_requests.specs.Traits.{mid_search}
use Rattle.dap_requests.specs.declared.traits.MidSearch.TheVariants as mid
use Rattle.dap_record.specs.Turns.{RecordedTurn, turn_of, turn}
use Rattle.dap_record.specs.Slices.{RecordedTold, steps_on, with_inputs_due, recorded_slice, slice_limit}
use Rattle.dap_record.specs.Slices.{slice_told, Input, request, slice, step, play_all, meant_by}
use Rattle.dap_record.proofs.RunLemmas.{same_input, same_then}
use Rattle.dap_record.proofs.RequestLemmas.{after_made, not_begun, board_with_input}
use Rattle.dap_record.proofs.RecordedLemmas.{look_leaves}
use Rattle.dap_record.proofs.SliceLemmas.{arrived, kept_left}
use Rattle.dap_record.proofs.TravelLemmas.{can_put, can_held}
use Rattle.dap_laws.specs.Recorded.{after_all, IsRecordingOf, IsRecordingOfIf, IsSamePlace, IsSamePlaceIf}
use Rattle.dap_laws.proofs.CaseLemmas.{turn_for, of_turn, of_back, of_slice}
use Rattle.dap_laws.proofs.GoalLemmas.{found_within}

-- ---- a run that goes on

kept_by : (b : Bool) (s : SessionState) (o : Option Recording) → can_go_back s ≡ b
    → (can_go_back s ≡ true → IsRecordingOfIf o s) → IsRecordingOfIf (if b then o else None) s
kept_by true s o is of = of is
kept_by false s o is of = tt

kept : (s : SessionState) (o : Option Recording) → (can_go_back s ≡ true → IsRecordingOfIf o s)
    → IsRecordingOfIf (kept_while s o) s
kept s o of = kept_by (can_go_back s) s o refl of

-- a run that begins
begun : (s : SessionState) → can_go_back s ≡ true → IsRecordingOf (new_recording s.board) s
begun s can = record {
  parts = record { machine = refl; past = refl; trace = refl };
  ordered = tt;
  can = can;
  told = omega arith;
}

-- an input came
with_one : (full : Bool) (i : RunInput) (r : Recording) (before s : SessionState) → IsRecordingOf r before
    → can_go_back s ≡ true → SameParts (after_input i before.board) s.board
    → IsRecordingOfIf (if full then None else Some (record r {
      log = up_to r.count r.log ++ record { count = r.count; input = i } ∷ [];
      told = r.count;
    })) s
with_one true i r before s of can came = tt
with_one false i r before s of can came =
    let there = board_at r.start r.log r.count in
    let parts : SameParts (after_input i there) s.board =
    same_then (after_input i there) (after_input i before.board) s.board
    (same_input i there before.board of.parts) came in
    record {
      parts =
          subst (λ b. SameParts b s.board) (sym (board_with_input r.start r.log r.count i of.ordered)) parts;
      ordered =
          ascends-push 0 (up_to r.count r.log) (record { count = r.count; input = i })
          (ascends-up_to r.count 0 r.log of.ordered) (latest-up_to r.count 0 r.log of.ordered (omega arith));
      can = can;
      told = omega arith;
    }

-- an input came, or none
went_on : (o : Option Recording) (i : Option RunInput) (before s : SessionState) → IsRecordingOfIf o before
    → can_go_back s ≡ true → SameParts (after_input_if i before.board) s.board
    → IsRecordingOfIf (option_and_then (with_input_if i) o) s
went_on None i before s of can came = tt
went_on (Some r) None before s of can came = record {
  parts = same_then (board_at r.start r.log r.count) before.board s.board of.parts came;
  ordered = of.ordered;
  can = can;
  told = of.told;
}
went_on (Some r) (Some i) before s of can came =
    with_one (is_full i (up_to r.count r.log)) i r before s of can came

by_begin : (b : Bool) (a : RequestContent) (found : Option FileText) (v : RecordedState)
    → begins a v.session (turn_for a found v) ≡ b → IsRecordingOfIf v.recording v.session
    → can_go_back (turn_for a found v).state ≡ true
    → IsRecordingOfIf (if b then Some (new_recording (turn_for a found v).state.board)
    else option_and_then (with_input_if (input_made a v.session (turn_for a found v))) v.recording)
    (turn_for a found v).state
by_begin true a found v is of can = begun (turn_for a found v).state can
by_begin false a found v is of can =
    let t = turn_for a found v in
    let known = not_begun (is_success t.outcome) (asks_to_load a) (can_go_back v.session) is in
    went_on v.recording (input_made a v.session t) v.session t.state of can
    (after_made a found v (is_success t.outcome) refl known can)

went : (a : RequestContent) (found : Option FileText) (v : RecordedState)
    → IsRecordingOfIf v.recording v.session
    → IsRecordingOfIf (recording_after a v.session (turn_for a found v) v.recording)
    (turn_for a found v).state
went a found v of =
    kept (turn_for a found v).state _ (λ can. by_begin (begins a v.session (turn_for a found v)) a found v
    refl of can)

-- ---- a run that goes back

pub recording_in : (v : RecordedState) (r : Recording) → v.recording ≡ Some r
    → IsRecordingOfIf v.recording v.session → IsRecordingOf r v.session
recording_in v r is of = subst (λ o. IsRecordingOfIf o v.session) is of

put_back : (r : Recording) (count : ℕ) (points : List ConditionalBreakpoint) (s : SessionState)
    → count ≤ r.count → IsRecordingOf r s
    → IsRecordingOf (record r { count = count }) (put_to (board_at r.start r.log count) points s)
put_back r count points s within of =
    let told = of.told in
    record {
      parts = record { machine = refl; past = refl; trace = refl };
      ordered = of.ordered;
      can = can_put (board_at r.start r.log count) points s of.can;
      told = omega (arith, within, told);
    }

put_held : (r : Recording) (s : SessionState) → IsRecordingOf r s
    → IsRecordingOf r (held_at (board_at r.start r.log r.count) s)
put_held r s of =
    let told = of.told in
    record {
      parts = record { machine = refl; past = refl; trace = refl };
      ordered = of.ordered;
      can = can_held (board_at r.start r.log r.count) s of.can;
      told = told;
    }

-- ---- a look

waited : (o : Option Recording) (s : SessionState) → IsRecordingOfIf o s
    → IsRecordingOfIf o (with_waits false s)
waited None s of = tt
waited (Some r) s of =
    record { parts = of.parts; ordered = of.ordered; can = of.can; told = of.told }

looked : (a : RequestContent) (found : Option FileText) (v : RecordedState) → mid_search a ≡ mid.Look
    → IsRecordingOfIf v.recording v.session
    → IsRecordingOfIf v.recording (turn_for a found v).state
looked a found v is of =
    subst (λ s. IsRecordingOfIf v.recording s) (sym (look_leaves a found v.session is))
    (waited v.recording v.session of)

-- ---- all requests

turned : (a : RequestContent) (found : Option FileText) (v : RecordedState)
    → IsRecordingOfIf v.recording v.session
    → IsRecordingOfIf (turn a found v).state.recording (turn a found v).state.session
turned a found v of =
    of_turn (λ (t : RecordedTurn). IsRecordingOfIf t.state.recording t.state.session) a found v (record {
      onward = λ none is. went a found v of;
      back = λ c none is.
          of_back (λ r. IsRecordingOfIf (turn_of r).state.recording (turn_of r).state.session) c v (record {
            refused = λ text. of;
            arrives = λ c r count is can within.
                put_back r count (without_hits v.session.settings.conditional) v.session within
                (recording_in v r is of);
            searches = λ goal c r is can stopped.
                put_held r v.session (recording_in v r is of);
          });
      look = λ goal on is. looked a found v is of;
      pause = λ goal on is. of;
      ends = λ goal on is. went a found v of;
      other = λ goal on is. of;
    })

-- ---- slices

made : (p : ℕ × SliceOutcome) (r : Recording) (s : SessionState) → p.0 ≤ slice_limit r → IsRecordingOf r s
    → IsRecordingOfIf (recorded_slice p r s).state.recording (recorded_slice p r s).state.session
made (k, ending) r s few of =
    let t = slicing (k, ending) s in
    let left =
    kept_left (held_ends s.settings.filters s.settings.program) ending (after_steps k s.board) in
    kept (with_inputs_due k r t.state) (Some (steps_on k r)) (λ can. record {
      parts = arrived r k s.board t.state.board of.ordered few of.parts left;
      ordered = of.ordered;
      can = can;
      told = omega arith;
    })

sliced : (finds : Bool) (v : RecordedState) → IsRecordingOfIf v.recording v.session
    → IsRecordingOfIf (slice_told finds v).state.recording (slice_told finds v).state.session
sliced finds v of =
    of_slice (λ (t : RecordedTold). IsRecordingOfIf t.state.recording t.state.session) finds v (record {
      idles = λ none is. of;
      plain = λ none is wants. tt;
      recorded = λ r none is wants.
          made _ r v.session
          (end_within v.session.settings.conditional (slice_limit r) v.session.board)
          (recording_in v r is of);
      searches = λ goal on. of;
      finds = λ goal r on is.
          put_back r (found_by goal r v.session) _ v.session (found_within goal r v.session)
          (recording_in v r is of);
    })

-- ---- sessions

pub recording_step : (input : Input) (v : RecordedState) → IsRecordingOfIf v.recording v.session
    → IsRecordingOfIf (step input v).state.recording (step input v).state.session
recording_step (request r found) v of = turned (meant_by r v) found v of
recording_step (slice finds) v of = sliced finds v of

recording_played : (inputs : List Input) (v : RecordedState) → IsRecordingOfIf v.recording v.session
    → IsRecordingOfIf (play_all inputs v).state.recording (play_all inputs v).state.session
recording_played [] v of = of
recording_played (input ∷ inputs) v of =
    recording_played inputs (step input v).state (recording_step input v of)

pub recording_is : (inputs : List Input)
    → IsRecordingOfIf (after_all inputs).recording (after_all inputs).session
recording_is inputs = recording_played inputs recorded_before_requests tt

-- ---- two runs at the same place

same_board : (r r' : Recording) (s s' : SessionState) → IsRecordingOf r s → IsRecordingOf r' s'
    → IsSamePlace r r' → board_at r'.start r'.log r'.count ≡ board_at r.start r.log r.count
same_board r r' s s' of of' place =
    ap (λ b. board_at b r'.log r'.count) place.start
    ∙ (ap (λ n. board_at r.start r'.log n) place.count
    ∙ (at_up_to 0 r.count r.start r'.log of'.ordered
    ∙ (ap (λ log. board_at r.start log r.count) place.inputs
    ∙ sym (at_up_to 0 r.count r.start r.log of.ordered))))

same_place_if : (o o' : Option Recording) (s s' : SessionState) → IsRecordingOfIf o s → IsRecordingOfIf o' s'
    → IsSamePlaceIf o o' → SameParts s.board s'.board
same_place_if (Some r) (Some r') s s' of of' place =
    let parts = subst (λ b. SameParts b s'.board) (same_board r r' s s' of of' place) of'.parts in
    record {
      machine = parts.machine ∙ sym of.parts.machine;
      past = parts.past ∙ sym of.parts.past;
      trace = parts.trace ∙ sym of.parts.trace;
    }
same_place_if None None s s' of of' place = absurd place
same_place_if None (Some r') s s' of of' place = absurd place
same_place_if (Some r) None s s' of of' place = absurd place

pub same_place : (inputs others : List Input)
    → IsSamePlaceIf (after_all inputs).recording (after_all others).recording
    → SameParts (after_all inputs).session.board (after_all others).session.board
same_place inputs others place =
    same_place_if _ _ _ _ (recording_is inputs) (recording_is others) place
