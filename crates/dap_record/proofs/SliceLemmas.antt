-- Slices of a recorded run.
use Rattle.std.proofs.Common.{◌≡◌, ◌∙◌, ◌≤◌, ◌<◌, ◌-◌, ◌+◌, ℕ, List, [], ◌∷◌, ◌++◌, true, false, nat_le}
use Rattle.std.proofs.Common.{nat_lt, length, take, get_or, min, max, Option, Some, None, Result, Ok, Err}
use Rattle.std.proofs.Common.{refl, sym, ap, subst, arith, inl, inr}
use Rattle.std.specs.declared.alloc.AllocError.{AllocError}
use Rattle.std.proofs.lemmas.Bool.{cases_lt}
use Rattle.std.proofs.lemmas.Bool.Decides.{nat_tests}
use Rattle.std.proofs.lemmas.List.{take_more, append-nil}
use Rattle.std.proofs.lemmas.List.Elements.{filter-append}
use Rattle.std.proofs.lemmas.List.Sums.{fold-append}
use Rattle.lab_core.specs.declared.answer.SliceOutcome.{SliceOutcome}
use Rattle.lab_core.specs.declared.answer.SliceOutcome.TheVariants as outcome
use Rattle.lab_core.specs.Board.{Board}
use Rattle.lab_core.specs.Slices.{after_steps, left_by}
use Rattle.dap_session.specs.Slices.{slice_end_in}
use Rattle.dap_slice.proofs.SliceLemmas.{end_within}
use Rattle.dap_requests.specs.declared.request.ExceptionFilters.{ExceptionFilters}
use Rattle.dap_messages.specs.declared.message.Message.{Message}
use Rattle.dap_run.specs.declared.end.EndPolicy.{EndPolicy}
use Rattle.dap_run.specs.declared.end.EndPolicy.TheVariants.{Exit, Hold}
use Rattle.dap_run.specs.Ends.{policy_at, left_at_end, held_at_end}
use Rattle.dap_history.specs.declared.input.Recorded.{Recorded}
use Rattle.dap_history.specs.Logs.{Ascends, up_to, later_than}
use Rattle.dap_history.specs.Runs.{after_input, board_at}
use Rattle.dap_history.proofs.LogLemmas.{all_later_than, skipped, ascends_from}
use Rattle.dap_run.specs.Lives.{held_ends}
use Rattle.dap_session.specs.declared.session.RunSlice.{RunSlice}
use Rattle.dap_session.specs.States.{SessionState, with_board, wants_slice}
use Rattle.dap_session.specs.Slices as session
use Rattle.dap_session.specs.Slices.{slicing}
use Rattle.dap_session.specs.Represents.{SessionFields, RepresentsSession, TellsAs, SlicesWithin}
use Rattle.dap_session.specs.Laws.{SameParts}
use Rattle.dap_record.specs.declared.slice.RecordedSlice.{RecordedSlice}
use Rattle.dap_record.specs.Fields.{RecordingFields}
use Rattle.dap_record.specs.Recordings.{Recording, RecordedState, after_inputs, inputs_ahead, kept_while}
use Rattle.dap_record.specs.Slices.{steps_to, steps_to_input, slice_limit, steps_on, with_inputs_due}
use Rattle.dap_record.specs.Slices.{recorded_slice, new_messages, run_told}
use Rattle.dap_record.specs.Represents.{RepresentsRecording, RepresentsRecordingIf, RepresentsRecorded, IsAt}
use Rattle.dap_record.specs.Represents.{MakesRecordedSlice}
use Rattle.dap_record.specs.Represents.{Tells as RecordedTells}
use Rattle.dap_record.proofs.RunLemmas.{same_steps, same_inputs, same_then, run_goes_on}

-- ---- inputs that are made again, one by one

pushed : (n : ℕ) (xs : List Recorded) (r : Recorded) → r.count ≤ n
    → up_to n (xs ++ r ∷ []) ≡ up_to n xs ++ r ∷ []
pushed n xs r within =
    let is : nat_le r.count n ≡ true = grind (arith, nat_tests) in
    filter-append (λ (r : Recorded). nat_le r.count n) xs (r ∷ []) ∙ rw is refl

passed : (n : ℕ) (xs : List Recorded) (r : Recorded) → n < r.count → up_to n (xs ++ r ∷ []) ≡ up_to n xs
passed n xs r later =
    let is : nat_le r.count n ≡ false = grind (arith, nat_tests) in
    filter-append (λ (r : Recorded). nat_le r.count n) xs (r ∷ []) ∙ rw is (append-nil (up_to n xs))

up_to_next : (n i : ℕ) (inputs : List Recorded) (r : Recorded) → i < length inputs → r ≡ get_or inputs i r
    → up_to n (take (i + 1) inputs) ≡ up_to n (take i inputs ++ r ∷ [])
up_to_next n i inputs r below is =
    ap (up_to n) (take_more inputs i r below ∙ ap (λ x. take i inputs ++ x ∷ []) (sym is))

pub next_made : (n i : ℕ) (inputs : List Recorded) (r : Recorded) (b : Board) → i < length inputs
    → r ≡ get_or inputs i r → r.count ≤ n
    → after_inputs (up_to n (take (i + 1) inputs)) b
    ≡ after_input r.input (after_inputs (up_to n (take i inputs)) b)
next_made n i inputs r b below is within =
    ap (λ xs. after_inputs xs b) (up_to_next n i inputs r below is ∙ pushed n (take i inputs) r within)
    ∙ fold-append (λ b (r : Recorded). after_input r.input b) b (up_to n (take i inputs)) (r ∷ [])

pub next_passed : (n i : ℕ) (inputs : List Recorded) (r : Recorded) (b : Board) → i < length inputs
    → r ≡ get_or inputs i r → n < r.count
    → after_inputs (up_to n (take (i + 1) inputs)) b ≡ after_inputs (up_to n (take i inputs)) b
next_passed n i inputs r b below is later =
    ap (λ xs. after_inputs xs b) (up_to_next n i inputs r below is ∙ passed n (take i inputs) r later)

-- ---- no input lies between a slice's ends

pub none_between : (c n : ℕ) (log : List Recorded) → Ascends 0 log → c ≤ n
    → n - c ≤ steps_to_input c (later_than c log) → Ascends n (later_than c log)
none_between c n [] asc first few = tt
none_between c n (r ∷ rs) asc first few = elim (cases_lt c r.count) [
  | inl later ↦ (
      let all = all_later_than c r rs asc later in
      let near : n - c ≤ steps_to c r.count = subst (λ xs. n - c ≤ steps_to_input c xs) all few in
      let is : nat_lt c r.count ≡ true = grind (arith, nat_tests) in
      let gap : steps_to c r.count ≡ r.count - c = rw is refl in
      rw all (omega (arith, near, gap, later, first), asc.1)
      )
  | inr within ↦ (
      let on = skipped c r rs within in
      let rest : Ascends 0 rs = ascends_from 0 r.count rs (omega arith) asc.1 in
      rw on (none_between c n rs rest first (subst (λ xs. n - c ≤ steps_to_input c xs) on few))
      )
]

-- ---- the run's end leaves the parts

kept_at_end : (policy : EndPolicy) (b : Board) → SameParts b (left_at_end policy b)
kept_at_end Exit b = record { machine = refl; past = refl; trace = refl }
kept_at_end Hold b = record { machine = refl; past = refl; trace = refl }

pub kept_left : (held : ExceptionFilters) (ending : SliceOutcome) (b : Board)
    → SameParts b (held_at_end held ending (left_by ending b))
kept_left held outcome.More b = record { machine = refl; past = refl; trace = refl }
kept_left held outcome.Waiting b = record { machine = refl; past = refl; trace = refl }
kept_left held (outcome.Stop s) b = record { machine = refl; past = refl; trace = refl }
kept_left held (outcome.End how) b =
    let end = kept_at_end (policy_at held how) (left_by (outcome.End how) b) in
    record { machine = end.machine; past = end.past; trace = end.trace }

-- ---- a slice

-- the board after a slice of k steps and the inputs that come then has the parts of the recorded run's
pub arrived : (r : Recording) (k : ℕ) (b b' : Board) → Ascends 0 r.log → k ≤ slice_limit r
    → SameParts (board_at r.start r.log r.count) b → SameParts (after_steps k b) b'
    → SameParts (board_at r.start r.log (r.count + k))
    (after_inputs (up_to (r.count + k) (inputs_ahead r)) b')
arrived r k b b' asc few here made =
    let c = r.count in
    let n = c + k in
    let steps : n - c ≡ k = omega arith in
    let near : n - c ≤ steps_to_input c (later_than c r.log) = omega (arith, few) in
    let first : c ≤ n = omega arith in
    let was = board_at r.start r.log c in
    let there = same_then (after_steps k was) (after_steps k b) b' (same_steps k was b here) made in
    let goes = run_goes_on r.start r.log c n asc first (none_between c n r.log asc first near) in
    let on = ap (λ j. after_inputs (up_to n (inputs_ahead r)) (after_steps j was)) steps in
    rw (goes ∙ on) (same_inputs (up_to n (inputs_ahead r)) (after_steps k was) b' there)

-- the call that makes the inputs again does that
abbrev Redoes : ℕ → RecordingFields → SessionFields → SessionFields → Type 0
Redoes count v mid new = (s : SessionState) → RepresentsSession mid s
    → RepresentsSession new
    (with_board (after_inputs (up_to count (later_than v.count v.history.log)) s.board) s)

-- the call that keeps the recording does that
abbrev Keeps : ℕ → ℕ → RecordingFields → SessionFields → RecordedSlice → Type 0
Keeps count told v new slice = (r : Recording) (s : SessionState) → RepresentsSession new s
    → IsAt (record v { count = count; told = told }) r s
    → RepresentsRecordingIf slice.recording (kept_while s (Some r)) s

represented : (p : ℕ × SliceOutcome) (v : RecordingFields) (r : Recording) (s : SessionState)
    (count told : ℕ) (mid new : SessionFields) (slice : RecordedSlice)
    → RepresentsRecording v r s → p.0 ≤ slice_limit r → RepresentsSession mid (slicing p s).state
    → count ≡ r.count + p.0 → told ≡ max v.told count
    → Redoes count v mid new → Keeps count told v new slice
    → RepresentsRecorded (record { session = new; recording = slice.recording; search = None })
    (recorded_slice p r s).state
represented (k, ending) v r s count told mid new slice rec few made count_is told_is redoes keeps =
    let t = slicing (k, ending) s in
    let after = with_inputs_due k r t.state in
    let ahead : up_to count (later_than v.count v.history.log) ≡ up_to (r.count + k) (inputs_ahead r) =
    rw (count_is, rec.count, rec.log) refl in
    let redone : RepresentsSession new after =
    subst (λ xs. RepresentsSession new (with_board (after_inputs xs t.state.board) t.state)) ahead
    (redoes t.state made) in
    let left =
    kept_left (held_ends s.settings.filters s.settings.program) ending (after_steps k s.board) in
    let parts =
    arrived r k s.board t.state.board (subst (λ xs. Ascends 0 xs) rec.log rec.history.ascends) few rec.parts
    left in
    let at : IsAt (record v { count = count; told = told }) (steps_on k r) after = record {
      history = rec.history;
      log = rec.log;
      count = count_is;
      told = told_is ∙ rw (rec.told, count_is) refl;
      parts = parts;
    } in
    record { session = redone; recording = keeps (steps_on k r) after redone at; search = tt }

told_so : (p : ℕ × SliceOutcome) (v : RecordingFields) (r : Recording) (s : SessionState) (made : RunSlice)
    → RepresentsRecording v r s → made.messages ≡ (slicing p s).messages
    → new_messages (nat_lt v.count v.told) made.messages ≡ (recorded_slice p r s).messages
told_so (k, ending) v r s made rec is = rw (rec.count, rec.told, is) refl

-- the limit is that of this recording
abbrev pub IsLimit : ℕ → RecordingFields → Type 0
IsLimit limit v =
    limit ≡ min 4096
    (min (steps_to v.count v.told) (steps_to_input v.count (later_than v.count v.history.log)))

pub slice_made : (v : RecordingFields) (r : Recording) (s : SessionState) (limit count told : ℕ)
    (made : RunSlice) (mid new : SessionFields) (slice : RecordedSlice)
    → RepresentsRecording v r s → IsLimit limit v → SlicesWithin limit s made mid
    → count ≡ v.count + made.executed → told ≡ max v.told count → Redoes count v mid new
    → Keeps count told v new slice
    → slice.messages ≡ new_messages (nat_lt v.count v.told) made.messages
    → MakesRecordedSlice r s slice new
slice_made v r s limit count told made mid new slice rec limit_is slices count_is told_is redoes keeps says =
    let same : limit ≡ slice_limit r = limit_is ∙ rw (rec.count, rec.told, rec.log) refl in
    let within = subst (λ n. SlicesWithin n s made mid) same slices in
    let end = slice_end_in (slice_limit r) s in
    let counted : count ≡ r.count + end.0 = count_is ∙ rw (rec.count, within.executed) refl in
    record {
      messages = says ∙ told_so end v r s made rec within.told.0;
      represents =
          represented end v r s count told mid new slice rec
          (end_within s.settings.conditional (slice_limit r) s.board)
          within.told.1 counted told_is redoes keeps;
    }

-- ---- a recorded session

-- what a session with a recording represents has one
pub recorded_in : (o : Option RecordingFields) (v : RecordingFields) (m : Option Recording) (s : SessionState)
    → o ≡ Some v → RepresentsRecordingIf o m s
    → (r : Recording) × (m ≡ Some r) × RepresentsRecording v r s
recorded_in (Some x) v (Some r) s is rec =
    let same : x ≡ v = cc in
    (r, refl, subst (λ y. RepresentsRecording y r s) same rec)
recorded_in (Some x) v None s is rec = absurd rec
recorded_in None v m s is rec = absurd cc

pub told_recorded : (v : RecordedState) (r : Recording) (slice : RecordedSlice) (session : SessionFields)
    → wants_slice v.session ≡ true → v.recording ≡ Some r → MakesRecordedSlice r v.session slice session
    → RecordedTells (run_told v) slice.messages
    (record { session = session; recording = slice.recording; search = None })
told_recorded v r slice session wants is made =
    rw (wants, is) (record { messages_are = made.messages; represents = made.represents })

-- a session that ran a slice, or had no memory for it, represents some state
pub still_some : (result : Result (List Message) AllocError) (old new : SessionFields) (s : SessionState)
    → RepresentsSession old s → TellsAs session.slice_told old result new
    → (s' : SessionState) × RepresentsSession new s'
still_some (Ok messages) old new s represents tells =
    ((session.slice_told s).state, (tells.0 s represents).1)
still_some (Err lack) old new s represents tells =
    (s, subst (λ v. RepresentsSession v s) (sym tells.1) represents)
