-- Requests that don't go back, and what becomes of a recording by them.
use Rattle.std.proofs.Common.{◌≡◌, ◌∙◌, ℕ, List, [], ◌∷◌, ◌++◌, Bool, true, false, not, ◌&&◌, ◌||◌, Option}
use Rattle.std.proofs.Common.{Some}
use Rattle.std.proofs.Common.{None, Result, Ok, Err, IfOk, nat_lt, nat_le, if◌then◌else◌, refl, sym, ap}
use Rattle.std.proofs.Common.{subst}
use Rattle.std.proofs.Common.{true≢false, ◌⊎◌, inl, inr, ◌<◌, ◌+◌, ◌-◌, arith}
use Rattle.std.proofs.lemmas.Bool.Decides.{nat_tests}
use Rattle.std.specs.Prelude.{option_and_then}
use Rattle.std.specs.declared.alloc.AllocError.{AllocError}
use Rattle.i80_exec.specs.declared.registers.Registers.{Registers}
use Rattle.dap_messages.specs.declared.message.EditorOutcome.{EditorOutcome}
use Rattle.dap_messages.specs.declared.message.EditorOutcome.TheVariants.{Success, Refused}
use Rattle.dap_messages.specs.declared.message.Message.{Message}
use Rattle.dap_requests.specs.declared.request.RequestContent.{RequestContent}
use Rattle.dap_requests.specs.declared.request.RequestContent.TheVariants as asked
use Rattle.lab_core.specs.Board.{Board}
use Rattle.dap_search.specs.declared.goal.Goal.{Goal}
use Rattle.dap_history.specs.declared.input.Input.{Input}
use Rattle.dap_history.specs.declared.input.Recorded.{Recorded}
use Rattle.dap_history.specs.Histories.{HistoryState, IsHistoryOf, cut_after, with_input}
use Rattle.dap_history.specs.Logs.{Ascends, up_to, log_size, size_of_input, IsFullIf}
use Rattle.dap_history.specs.declared.fault.LogFault.{LogFault}
use Rattle.dap_history.specs.Runs.{after_input, at_from, board_at}
use Rattle.dap_history.proofs.LogLemmas.{ascends-up_to, latest-up_to}
use Rattle.dap_history.proofs.RunLemmas.{goes_on_appended, at_up_to}
use Rattle.dap_launch.specs.declared.file.FileText.{FileText}
use Rattle.dap_run.specs.declared.messages.RequestId.{RequestId}
use Rattle.dap_run.specs.Messages.{turn_messages, as_messages}
use Rattle.dap_run.proofs.SliceLemmas.{told-append}
use Rattle.dap_session.specs.States.{SessionState}
use Rattle.dap_session.specs.Turns.{Turn}
use Rattle.dap_session.specs.Requests as session
use Rattle.dap_prompt.specs.Inputs.{input_of, is_success}
use Rattle.dap_session.specs.Rewinds.{can_go_back}
use Rattle.dap_prompt.specs.Effects.{effect_by, effect_done}
use Rattle.dap_prompt.specs.declared.outcome.Effect.TheVariants as effect
use Rattle.dap_prompt.specs.declared.outcome.RequestOutcome.{RequestOutcome}
use Rattle.dap_session.specs.Laws.{SameParts, asks_to_load}
use Rattle.dap_session.specs.Represents.{SessionFields, RepresentsSession}
use Rattle.dap_session.proofs.InputLemmas.{made_turn}
use Rattle.dap_session.proofs.RefusalLemmas.{refused_turn}
use Rattle.dap_record.specs.declared.note.Before.{Before}
use Rattle.dap_record.specs.declared.note.Noted.{Noted}
use Rattle.dap_record.proofs.RunLemmas.{same_input, same_then}
use Rattle.dap_record.specs.Recordings.{Recording, RecordedState, new_recording, kept_while, with_input_if}
use Rattle.dap_record.specs.Recordings.{begins, input_made, recording_after, forgets_by, with_input_now}
use Rattle.dap_record.specs.Recordings.{is_full}
use Rattle.dap_record.specs.Turns.{forgotten_events, forgotten_messages, count_of}
use Rattle.dap_record.specs.Fields.{RecordingFields}
use Rattle.dap_record.specs.Represents.{RepresentsRecording, RepresentsRecordingIf}
use Rattle.dap_record.specs.Noting.{IsBefore, IsAnswered, IsAfterInput, IsAfterInputIf, NotesTurn, NotesInput}
use Rattle.dap_record.specs.Noting.{may_begin, input_in}

ok_both : {A E : Type 0} {P Q R : A → Type 0} (r : Result A E) → IfOk r P → IfOk r Q
    → ((x : A) → P x → Q x → R x) → IfOk r R
ok_both (Ok x) p q f = f x p q
ok_both (Err e) p q f = tt

ok_then : {A E : Type 0} {P R : A → Type 0} (r : Result A E) → IfOk r P → ((x : A) → P x → R x) → IfOk r R
ok_then (Ok x) p f = f x p
ok_then (Err e) p f = tt

append-nil : (xs : List Message) → xs ++ [] ≡ xs
append-nil [] = refl
append-nil (x ∷ xs) = ap (λ rest. x ∷ rest) (append-nil xs)

-- ---- what follows from a recording

none_recorded : (v : Option RecordingFields) (o : Option Recording) (s : SessionState)
    → RepresentsRecordingIf v o s → can_go_back s ≡ false → o ≡ None
none_recorded None None s represents dead = refl
none_recorded (Some v) (Some r) s represents dead = absurd (true≢false (sym represents.can ∙ dead))
none_recorded None (Some r) s represents dead = absurd represents
none_recorded (Some v) None s represents dead = absurd represents

-- a request that loads is no input
load_input : (a : RequestContent) (b : Board) → asks_to_load a ≡ true → input_of a b ≡ None
load_input (asked.Load c) b is = refl
load_input (asked.Board c) b is = absurd (true≢false (sym is))
load_input (asked.Editor c) b is = absurd (true≢false (sym is))
load_input (asked.Faulty f) b is = absurd (true≢false (sym is))

forgets_none : (i : Option Input) → forgets_by i None ≡ false
forgets_none None = refl
forgets_none (Some i) = refl

-- ---- the turn

abbrev turn_for : RequestContent → Option FileText → RecordedState → Turn
turn_for a found v = session.turn a found v.session

-- by whether something is forgotten, and the recording after it
notes : (a : RequestContent) (found : Option FileText) (v : RecordedState) (c : RequestId) (noted : Noted)
    (forgets : Bool) (after : Option Recording)
    → forgets_by (input_made a v.session (turn_for a found v)) v.recording ≡ forgets
    → recording_after a v.session (turn_for a found v) v.recording ≡ after
    → noted.messages ≡ turn_messages c (turn_for a found v).outcome (turn_for a found v).events
    ++ forgotten_messages forgets (count_of v.recording)
    → RepresentsRecordingIf noted.recording after (turn_for a found v).state
    → NotesTurn a found v c noted
notes a found v c noted forgets after forgets_is after_is messages recording =
    let t = turn_for a found v in
    let told =
    ap (λ b. turn_messages c t.outcome t.events ++ forgotten_messages b (count_of v.recording))
    (sym forgets_is) in
    let f = forgotten_events (forgets_by (input_made a v.session t) v.recording) (count_of v.recording) in
    record {
      messages =
          messages ∙ (told ∙ ap (λ ms. Rattle.dap_run.specs.Messages.response c t.outcome ∷ ms)
          (sym (told-append t.events f)));
      recording =
          subst (λ o. RepresentsRecordingIf noted.recording o t.state) (sym after_is) recording;
    }

-- ---- what the request did

begins_by : (i : Option Input) (could : Bool) → may_begin (effect_by i) could ≡ not could
begins_by None could = refl
begins_by (Some i) could = refl

begins_done : (a : RequestContent) (b : Board) (could : Bool)
    → may_begin (effect_done a b) could ≡ (asks_to_load a || not could)
begins_done (asked.Load c) b could = refl
begins_done (asked.Board c) b could = begins_by (input_of (asked.Board c) b) could
begins_done (asked.Editor c) b could = begins_by (input_of (asked.Editor c) b) could
begins_done (asked.Faulty f) b could = refl

begins_where : (done : Bool) (a : RequestContent) (b : Board) (could : Bool)
    → may_begin (if done then effect_done a b else effect.Refused) could
    ≡ (done && (asks_to_load a || not could))
begins_where true a b could = begins_done a b could
begins_where false a b could = refl

input_by : (i : Option Input) → input_in (effect_by i) ≡ i
input_by None = refl
input_by (Some i) = refl

input_done : (a : RequestContent) (b : Board) → input_in (effect_done a b) ≡ input_of a b
input_done (asked.Load c) b = refl
input_done (asked.Board c) b = input_by (input_of (asked.Board c) b)
input_done (asked.Editor c) b = input_by (input_of (asked.Editor c) b)
input_done (asked.Faulty f) b = refl

input_where : (done : Bool) (a : RequestContent) (b : Board)
    → input_in (if done then effect_done a b else effect.Refused) ≡ (if done then input_of a b else None)
input_where true a b = input_done a b
input_where false a b = refl

-- a run may have begun
forgets_begun : (a : RequestContent) (v : RecordedState) (t : Turn) (rec : Option RecordingFields)
    (loads could : Bool)
    → asks_to_load a ≡ loads → can_go_back v.session ≡ could → (loads || not could) ≡ true
    → RepresentsRecordingIf rec v.recording v.session
    → forgets_by (input_made a v.session t) v.recording ≡ false
forgets_begun a v t rec true could loads_is could_is either represents =
    ap (λ i. forgets_by i v.recording) (made_none (is_success t.outcome)) ∙ none_forgotten v.recording
  where
    made_none : (b : Bool) → (if b then input_of a v.session.board else None) ≡ None
    made_none true = load_input a v.session.board loads_is
    made_none false = refl

    none_forgotten : (o : Option Recording) → forgets_by None o ≡ false
    none_forgotten o = refl
forgets_begun a v t rec false false loads_is could_is either represents =
    ap (λ o. forgets_by (input_made a v.session t) o) (none_recorded rec v.recording v.session represents
    could_is)
    ∙ forgets_none (input_made a v.session t)
forgets_begun a v t rec false true loads_is could_is either represents = absurd (true≢false (sym either))

begun_if : (b : Bool) (x y : Option Recording) → b ≡ true → (if b then x else y) ≡ x
begun_if true x y is = refl
begun_if false x y is = absurd (true≢false (sym is))

other_if : (b : Bool) (x y : Option Recording) → b ≡ false → (if b then x else y) ≡ y
other_if true x y is = absurd (true≢false is)
other_if false x y is = refl

both_parts : (x y : Bool) → (x && y) ≡ true → (x ≡ true) × (y ≡ true)
both_parts true true is = (refl, refl)
both_parts true false is = absurd (true≢false (sym is))
both_parts false y is = absurd (true≢false (sym is))

begins_is : (a : RequestContent) (found : Option FileText) (v : RecordedState) (c : RequestId)
    (before : Before) (outcome : RequestOutcome) (session : SessionFields)
    → IsBefore v before → IsAnswered a found v c outcome session
    → may_begin outcome.effect before.could ≡ begins a v.session (turn_for a found v)
begins_is a found v c before outcome session known answered =
    (λ i. may_begin (answered.effect_is i) (known.could i))
    ∙ begins_where (is_success (turn_for a found v).outcome) a v.session.board (can_go_back v.session)

pub begun_noted : (a : RequestContent) (found : Option FileText) (v : RecordedState) (c : RequestId)
    (before : Before) (outcome : RequestOutcome) (session : SessionFields) (result : Result Noted AllocError)
    → IsBefore v before → IsAnswered a found v c outcome session
    → may_begin outcome.effect before.could ≡ true
    → IfOk result (λ noted. noted.messages ≡ outcome.messages)
    → ((s : SessionState) → RepresentsSession session s → IfOk result (λ noted.
    RepresentsRecordingIf noted.recording (kept_while s (Some (new_recording s.board))) s))
    → IfOk result (NotesTurn a found v c)
begun_noted a found v c before outcome session result known answered may told recording =
    let t = turn_for a found v in
    let begins_so : begins a v.session t ≡ true =
    sym (begins_is a found v c before outcome session known answered) ∙ may in
    let forgets =
    forgets_begun a v t before.recording (asks_to_load a) (can_go_back v.session) refl refl
    (both_parts (is_success t.outcome) (asks_to_load a || not (can_go_back v.session)) begins_so).1
    known.recording in
    let after =
    ap (λ o. kept_while t.state o) (begun_if (begins a v.session t) (Some (new_recording t.state.board))
    (option_and_then (with_input_if (input_made a v.session t)) v.recording) begins_so) in
    ok_both result told (recording t.state answered.represents)
    (λ noted same represents. notes a found v c noted false _ forgets after
    (same ∙ (answered.messages_are ∙ sym (append-nil (turn_messages c t.outcome t.events)))) represents)

-- ---- a run that didn't begin

-- an outcome that is no success is a refusal
refused_by : (o : EditorOutcome) → is_success o ≡ false → (text : List ℕ) × (o ≡ Refused text)
refused_by (Success body) is = absurd (true≢false is)
refused_by (Refused text) is = (text, refl)

pub after_made : (a : RequestContent) (found : Option FileText) (v : RecordedState) (done : Bool)
    → is_success (turn_for a found v).outcome ≡ done
    → ((asks_to_load a ≡ false) × (can_go_back v.session ≡ true)) ⊎ (done ≡ false)
    → IsAfterInputIf (if done then input_of a v.session.board else None) v.session
    (turn_for a found v).state
after_made a found v true success known = λ can. elim known [
  | inl so ↦
      made_turn a found v.session so.0 (record { before = so.1; after = can; done = success })
  | inr other ↦ absurd (true≢false other)
]
after_made a found v false success known = λ can.
    let refused = refused_by (turn_for a found v).outcome success in
    let leaves = refused_turn a found v.session refused.0 refused.1 in
    record {
      machine = ap (λ (b : Board). b.machine) leaves.board;
      past = ap (λ (b : Board). b.past) leaves.board;
      trace = ap (λ (b : Board). b.trace) leaves.board;
    }

pub not_begun : (done loads could : Bool) → (done && (loads || not could)) ≡ false
    → ((loads ≡ false) × (could ≡ true)) ⊎ (done ≡ false)
not_begun true true could is = absurd (true≢false is)
not_begun true false true is = inl (refl, refl)
not_begun true false false is = absurd (true≢false is)
not_begun false loads could is = inr refl

pub other_noted : (a : RequestContent) (found : Option FileText) (v : RecordedState) (c : RequestId)
    (before : Before) (outcome : RequestOutcome) (session : SessionFields) (made : Option Input)
    (result : Result Noted AllocError)
    → IsBefore v before → IsAnswered a found v c outcome session
    → may_begin outcome.effect before.could ≡ false → made ≡ input_in outcome.effect
    → ((w : RecordedState) (s : SessionState) → RepresentsRecordingIf before.recording w.recording w.session
    → RepresentsSession session s → IsAfterInputIf made w.session s
    → IfOk result (NotesInput w s made outcome.messages))
    → IfOk result (NotesTurn a found v c)
other_noted a found v c before outcome session made result known answered may made_is notes_it =
    let t = turn_for a found v in
    let done = is_success t.outcome in
    let made_so : made ≡ input_made a v.session t =
    made_is ∙ (ap input_in answered.effect_is ∙ input_where done a v.session.board) in
    let begins_so : begins a v.session t ≡ false =
    sym (begins_is a found v c before outcome session known answered) ∙ may in
    let after =
    ap (λ o. kept_while t.state o) (other_if (begins a v.session t) (Some (new_recording t.state.board))
    (option_and_then (with_input_if (input_made a v.session t)) v.recording) begins_so)
    ∙ ap (λ i. kept_while t.state (option_and_then (with_input_if i) v.recording)) (sym made_so) in
    let came : IsAfterInputIf made v.session t.state =
    subst (λ i. IsAfterInputIf i v.session t.state) (sym made_so)
    (after_made a found v done refl
    (not_begun done (asks_to_load a) (can_go_back v.session) begins_so)) in
    ok_then result (notes_it v t.state known.recording answered.represents came)
    (λ noted n.
    notes a found v c noted (forgets_by made v.recording) _
    (ap (λ i. forgets_by i v.recording) (sym made_so)) after
    (n.messages_are ∙ ap (λ ms. ms ++ forgotten_messages (forgets_by made v.recording) (count_of v.recording))
    answered.messages_are) n.recording)

-- ---- an input that came

input_noted_at : (f : RecordingFields) (o : Option Recording) (g : Option Goal) (before s : SessionState)
    (i : Input)
    (messages : List Message) (session : SessionFields) (result : Result Noted AllocError)
    → RepresentsRecordingIf (Some f) o before → RepresentsSession session s → IsAfterInput i before s
    → IfOk result (λ noted. noted.messages
    ≡ messages ++ forgotten_messages (nat_lt f.count f.told) f.count)
    → ((r : Recording) (b t : SessionState) → RepresentsSession session t → RepresentsRecording f r b
    → IsAfterInput i b t → IfOk result (λ noted.
    RepresentsRecordingIf noted.recording (kept_while t (with_input_now i r)) t))
    → IfOk result (NotesInput (record { session = before; recording = o; search = g }) s (Some i) messages)
input_noted_at f None g before s i messages session result rec represents came told recorded = absurd rec
input_noted_at f (Some r) g before s i messages session result rec represents came told recorded =
    ok_both result told (recorded r before s represents rec came)
    (λ noted m n. record {
      messages_are =
          m ∙ (λ j. messages ++ forgotten_messages (nat_lt (rec.count j) (rec.told j)) (rec.count j));
      recording = n;
    })

pub input_noted : (f : RecordingFields) (v : RecordedState) (s : SessionState) (i : Input)
    (messages : List Message) (session : SessionFields) (result : Result Noted AllocError)
    → RepresentsRecordingIf (Some f) v.recording v.session → RepresentsSession session s
    → IsAfterInput i v.session s
    → IfOk result (λ noted. noted.messages
    ≡ messages ++ forgotten_messages (nat_lt f.count f.told) f.count)
    → ((r : Recording) (b t : SessionState) → RepresentsSession session t → RepresentsRecording f r b
    → IsAfterInput i b t → IfOk result (λ noted.
    RepresentsRecordingIf noted.recording (kept_while t (with_input_now i r)) t))
    → IfOk result (NotesInput v s (Some i) messages)
input_noted f v s i messages session result =
    input_noted_at f v.recording v.search v.session s i messages session result

-- ---- an input that is recorded

pub kept_so : (s : SessionState) (o : Option Recording) → can_go_back s ≡ true → kept_while s o ≡ o
kept_so s o can = begun_if (can_go_back s) o None can

not_full : (i : Input) (log : List Recorded) → (4194304 < log_size log + size_of_input i → ⊥)
    → is_full i log ≡ false
not_full i log few = grind (arith, nat_tests, few)

full : (i : Input) (log : List Recorded) → 4194304 < log_size log + size_of_input i → is_full i log ≡ true
full i log many = grind (arith, nat_tests, many)

pub none_left : (v : RecordingFields) (r : Recording) (before s : SessionState) (i : Input) (cut :
    HistoryState)
    → RepresentsRecording v r before → cut ≡ cut_after v.count v.history
    → 4194304 < log_size cut.log + size_of_input i → RepresentsRecordingIf None (with_input_now i r) s
none_left v r before s i cut rec cut_is many =
    let log : cut.log ≡ up_to r.count r.log =
    ap (λ (h : HistoryState). h.log) cut_is ∙ (λ j. up_to (rec.count j) (rec.log j)) in
    let so = full i (up_to r.count r.log)
    (subst (λ l. 4194304 < log_size l + size_of_input i) log many) in
    subst (λ o. RepresentsRecordingIf None o s)
    (sym (begun_if (is_full i (up_to r.count r.log)) None _ so)) tt

pub board_with_input : (start : Board) (log : List Recorded) (c : ℕ) (i : Input) → Ascends 0 log
    → board_at start (up_to c log ++ record { count = c; input = i } ∷ []) c
    ≡ after_input i (board_at start log c)
board_with_input start log c i asc =
    let before = up_to c log in
    let r : Recorded = record { count = c; input = i } in
    let x = board_at start before c in
    let zero_is : c - c ≡ 0 = omega arith in
    let near : nat_le c c ≡ true = grind (arith, nat_tests) in
    let appended : board_at start (before ++ r ∷ []) c ≡ at_from c x (r ∷ []) c =
    goes_on_appended 0 c c start before (r ∷ []) (ascends-up_to c 0 log asc)
    (latest-up_to c 0 log asc (omega arith)) (omega arith, tt) (omega arith) in
    let one : at_from c x (r ∷ []) c ≡ after_input i x = rw (near, zero_is) refl in
    appended ∙ (one ∙ ap (after_input i) (sym (at_up_to 0 c start log asc)))

pub input_recorded : (v : RecordingFields) (r : Recording) (before s : SessionState) (i : Input)
    (cut new : HistoryState)
    → RepresentsRecording v r before → IsAfterInput i before s → can_go_back s ≡ true
    → cut ≡ cut_after v.count v.history → (IsHistoryOf r.start v.history → IsHistoryOf r.start cut)
    → new ≡ with_input (record { count = v.count; input = i }) cut
    → (IsHistoryOf r.start cut → IsHistoryOf r.start new)
    → (4194304 < log_size cut.log + size_of_input i → ⊥)
    → RepresentsRecordingIf (Some (record { history = new; count = v.count; told = v.count }))
    (with_input_now i r)
    s
input_recorded v r before s i cut new rec came can cut_is keeps new_is keeps_on few =
    let log : cut.log ≡ up_to r.count r.log =
    ap (λ (h : HistoryState). h.log) cut_is ∙ (λ j. up_to (rec.count j) (rec.log j)) in
    let so = not_full i (up_to r.count r.log)
    (subst (λ l. 4194304 < log_size l + size_of_input i → ⊥) log few) in
    let asc : Ascends 0 r.log = subst (λ l. Ascends 0 l) rec.log rec.history.ascends in
    let parts = same_then _ _ _ (same_input i _ _ rec.parts) (came can) in
    let represents : RepresentsRecording (record { history = new; count = v.count; told = v.count })
    (record r {
      log = up_to r.count r.log ++ record { count = r.count; input = i } ∷ [];
      told = r.count;
    }) s = record {
      history = keeps_on (keeps rec.history);
      log =
          ap (λ (h : HistoryState). h.log) new_is
          ∙ (λ j. log j ++ record { count = rec.count j; input = i } ∷ []);
      count = rec.count;
      told = rec.count;
      parts =
          subst (λ b. SameParts b s.board) (sym (board_with_input r.start r.log r.count i asc)) parts;
      can = can;
    } in
    subst (λ o. RepresentsRecordingIf (Some (record { history = new; count = v.count; told = v.count })) o s)
    (sym (other_if (is_full i (up_to r.count r.log)) None _ so)) represents

-- an input that was taken wasn't too much
pub not_refused : (result : Result (Unit {0}) LogFault) (done : Unit {0}) (i : Input) (log : List Recorded)
    → result ≡ Ok done → IsFullIf result i log → 4194304 < log_size log + size_of_input i → ⊥
not_refused (Ok x) done i log is full_if many = let refused = full_if.1 many in absurd cc
not_refused (Err f) done i log is full_if many = absurd cc
