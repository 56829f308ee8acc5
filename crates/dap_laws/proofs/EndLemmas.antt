-- What is told of the end of a recorded run.
use Rattle.std.proofs.Common.{◌≡◌, ◌∙◌, List, ◌++◌, Bool, true, false, Some, not, is_some, refl, sym}
use Rattle.std.proofs.Common.{ap, subst}
use Rattle.std.proofs.lemmas.List.Elements.{filter-append}
use Rattle.lab_core.specs.declared.answer.End.{End}
use Rattle.lab_core.specs.Board.{Board}
use Rattle.lab_core.specs.Slices.{after_steps, left_by}
use Rattle.dap_messages.specs.declared.message.Message.{Message}
use Rattle.dap_run.specs.declared.end.EndPolicy.{EndPolicy}
use Rattle.dap_run.specs.declared.end.EndPolicy.TheVariants.{Exit, Hold}
use Rattle.dap_run.specs.Messages.{as_messages}
use Rattle.dap_session.specs.Slices.{slice_end_in, after_slice_in}
use Rattle.dap_run.specs.Slices.{policy_events}
use Rattle.dap_run.specs.Lives.{policy_of}
use Rattle.dap_session.specs.States.{SessionState, wants_slice, with_board}
use Rattle.dap_session.specs.Slices.{Told, slicing}
use Rattle.dap_session.specs.Laws.{EndIsTold}
use Rattle.dap_laws.proofs.SessionEndLemmas.{ended_so}
use Rattle.dap_record.specs.Recordings.{Recording, RecordedState, is_behind, after_inputs}
use Rattle.dap_record.specs.Slices.{is_output, new_messages, slice_limit, recorded_slice, run_told}
use Rattle.dap_record.specs.Slices.{slice_told}
use Rattle.dap_record.proofs.RecordedLemmas.{slice_idle}
use Rattle.dap_laws.specs.Recorded.{EndsNext, session_told}

-- ---- messages without output

new-append : (behind : Bool) (xs ys : List Message)
    → new_messages behind (xs ++ ys) ≡ new_messages behind xs ++ new_messages behind ys
new-append true xs ys = filter-append (λ m. not (is_output m)) xs ys
new-append false xs ys = refl

policy_new : (behind : Bool) (policy : EndPolicy) (how : End)
    → new_messages behind (as_messages (policy_events policy how)) ≡ as_messages (policy_events policy how)
policy_new true Exit how = refl
policy_new true Hold how = refl
policy_new false policy how = refl

told_new : (behind : Bool) (how : End) (s : SessionState) (b : Board) (t : Told) → EndIsTold how s b t
    → EndIsTold how s b (record { messages = new_messages behind t.messages; state = t.state })
told_new behind how s b t told =
    let policy = policy_of s.settings.filters s.settings.program how in
    record {
      parts = told.parts;
      before = new_messages behind told.before;
      told =
          ap (new_messages behind) told.told
          ∙ (new-append behind told.before (as_messages (policy_events policy how))
          ∙ ap (λ last. new_messages behind told.before ++ last) (policy_new behind policy how));
      later = told.later;
    }

-- ---- a recorded run

ran : (v : RecordedState) (r : Recording) → v.recording ≡ Some r → wants_slice v.session ≡ true
    → run_told v ≡ recorded_slice (slice_end_in (slice_limit r) v.session) r v.session
ran v r is wants = rw (wants, is) refl

made_alone : (how : End) (r : Recording) (v : RecordedState) → EndsNext how r v
    → session_told (recorded_slice (slice_end_in (slice_limit r) v.session) r v.session)
    ≡ (let t = slicing (slice_end_in (slice_limit r) v.session) v.session in
    record { messages = new_messages (is_behind r) t.messages; state = t.state })
made_alone how r v ends =
    let t = slicing (slice_end_in (slice_limit r) v.session) v.session in
    λ i. record {
      messages = new_messages (is_behind r) t.messages;
      state = with_board (after_inputs (ends.alone i) t.state.board) t.state;
    }

pub end_told : (how : End) (r : Recording) (v : RecordedState) (finds : Bool) → EndsNext how r v
    → EndIsTold how v.session (after_slice_in (slice_limit r) v.session)
    (session_told (slice_told finds v))
end_told how r v finds ends =
    let s = v.session in
    let p = slice_end_in (slice_limit r) s in
    let plain = ended_so p how s ends.is_initialized ends.ends in
    let same =
    ap session_told (slice_idle finds v (ap is_some ends.search) ∙ ran v r ends.recording ends.goes_on)
    ∙ made_alone how r v ends in
    subst (λ t. EndIsTold how s (after_slice_in (slice_limit r) s) t) (sym same)
    (told_new (is_behind r) how s (left_by p.1 (after_steps p.0 s.board)) (slicing p s) plain)
