-- Executions are answered in order, each with its execution count.
use Rattle.std.proofs.Common.{◌≡◌, ◌∙◌, ℕ, List, [], ◌∷◌, ◌++◌, Bool, true, false, Option, Some, None, refl}
use Rattle.std.proofs.Common.{sym}
use Rattle.std.proofs.Common.{ap, subst, fold, map, filter_map, length, inl, inr, append_assoc, ◌⊎◌, ◌==◌}
use Rattle.std.proofs.Common.{if◌then◌else◌}
use Rattle.std.specs.Prelude.{option_to_list, codes}
use Rattle.std.specs.List.{AllByRecursion, starts_with, cons_option}
use Rattle.std.proofs.lemmas.List.Elements.{filter_map-append}
use Rattle.base_text.specs.Bytes.{Bytes}
use Rattle.i80_base.specs.declared.ports.PortOperation.{PortOperation}
use Rattle.lab_core.specs.Board.{Board}
use Rattle.lab_core.specs.declared.answer.End.{End}
use Rattle.lab_core.specs.declared.answer.SliceOutcome.{SliceOutcome}
use Rattle.lab_core.specs.declared.answer.SliceOutcome.TheVariants as outcome
use Rattle.lab_core.specs.declared.run_state.RunState.{RunState}
use Rattle.lab_core.specs.declared.run_state.RunState.TheVariants.{NoRun, Running, Stopped}
use Rattle.lab_core.specs.SliceEnds.{slice_end}
use Rattle.lab_core.specs.Slices.{traffic_of, after_steps, left_by}
use Rattle.dap_answers.specs.Murmur.{cell_path}
use Rattle.kern_peers.specs.Connections.{Connections}
use Rattle.kern_post.specs.declared.content.Cause.{Cause}
use Rattle.kern_post.specs.declared.content.Content.{Content}
use Rattle.kern_post.specs.declared.content.Content.TheVariants as content
use Rattle.kern_post.specs.declared.content.Ending.{Ending}
use Rattle.kern_post.specs.declared.content.Ending.TheVariants.{Failed}
use Rattle.kern_post.specs.declared.post.Envelope.{Envelope}
use Rattle.kern_post.specs.declared.post.Letter.{Letter}
use Rattle.kern_exec.specs.declared.execution.Execution.{Execution}
use Rattle.kern_exec.specs.declared.execution.Current.{Current}
use Rattle.kern_exec.specs.declared.loading.Loading.{Loading}
use Rattle.kern_exec.specs.declared.loading.Loading.TheVariants.{Starts, Ends}
use Rattle.kern_exec.specs.Executions.{Work, count_with, current_of, under_way, clear_current}
use Rattle.kern_exec.specs.Boards.{is_run, cell_given, loading_of}
use Rattle.kern_exec.specs.Ends.{ending_of, cut_letters as letters_of_cut, end_letters, end_of_loading}
use Rattle.kern_exec.specs.Ends.{input_letters, outcome_letters, loading_letters}
use Rattle.kern_exec.specs.Letters.{publication, between_busy_and_idle}
use Rattle.kern_calls.specs.declared.call.Call.{Call}
use Rattle.kern_calls.specs.declared.call.Call.TheVariants as call
use Rattle.kern_core.specs.States.{KernelState, Turn}
use Rattle.kern_core.specs.Connections.{first_status, status_to}
use Rattle.kern_core.specs.Requests.{cut_of}
use Rattle.kern_core.specs.Slices.{letters_of as slice_letters_of, work_after, loading, by_start, by_run}
use Rattle.kern_core.specs.Turns.{turn, next}
use Rattle.kern_laws.specs.Events.{Incoming, along}
use Rattle.kern_laws.specs.Laws.{refuses, refuses_cause, incoming_execution, call_execution, with_counts}
use Rattle.kern_laws.specs.Laws.{CountedEnvelope, Input, execution_reply, reply_due, input_in, input_due}
use Rattle.kern_laws.specs.Laws.{waiting, not_ended}
use Rattle.kern_laws.proofs.CaseLemmas.{either, IsOfCalls, by_call}
use Rattle.kern_laws.proofs.RunLemmas.{kept_after, kept_load}
use Rattle.kern_laws.proofs.PieceLemmas.{PassesOver, append-nil, found_between, found_at_end, found_in_slice}
use Rattle.kern_laws.proofs.PieceLemmas.{found_in_loading}
use Rattle.kern_laws.proofs.ReplyLemmas.{never_refused, LoadsWell, result_loads}
use Rattle.kern_laws.proofs.FormLemmas.{IsOwnContent, IsOwn, HasForm, exchanged, unposted, cut_by, work_by}
use Rattle.kern_laws.proofs.FormLemmas.{run_by}
use Rattle.kern_laws.proofs.FormLemmas.{EndsRuns, with_executions, request_form}
use Rattle.kern_laws.proofs.InvariantLemmas.{IsUnderWay, Agrees, IsConsistent, none_current, call_agrees}
use Rattle.kern_laws.proofs.HistoryLemmas.{call_letters}

-- ---- what is due

-- the executions that haven't ended, and then these
abbrev due : Option Current → ℕ → List Execution → List CountedEnvelope
due current n queue = map reply_due (option_to_list current ++ with_counts n queue)

abbrev due_then : Work → List Execution → List CountedEnvelope
due_then w xs = due w.current w.count (w.queue ++ xs)

abbrev inputs_then : Work → List Execution → List Input
inputs_then w xs = filter_map input_due (with_counts w.count (w.queue ++ xs))

-- What a turn posts for executions, and what is due after it, was due before it, whatever executions follow.
record Answers (s : KernelState) (xs : List Execution) (t : Turn) : Type 0 where
  pub replies : (later : List Execution)
      → filter_map execution_reply t.letters ++ due_then t.state.work later ≡ due_then s.work (xs ++ later)
  pub inputs : (later : List Execution)
      → filter_map input_in t.letters ++ inputs_then t.state.work later ≡ inputs_then s.work (xs ++ later)
  pub end : (filter_map execution_reply t.letters ≡ []) ⊎ (t.state.board.run ≡ NoRun)

not_running : (r : RunState) → is_run r ≡ false → r ≡ NoRun
not_running NoRun is = refl
not_running Running is = cc
not_running Stopped is = cc

-- ---- what is found in letters

passes_replies : PassesOver execution_reply
passes_replies = record {
  status = λ e state. refl;
  stream = λ e bytes. refl;
  request = λ e. refl;
  error = λ e c. refl;
}

passes_inputs : PassesOver input_in
passes_inputs = record {
  status = λ e state. refl;
  stream = λ e bytes. refl;
  request = λ e. refl;
  error = λ e c. refl;
}

reply_at_end : (connections : Connections) (k : Current) (ending : Ending) → refuses ending ≡ false
    → filter_map execution_reply (end_letters connections k ending) ≡ reply_due k ∷ []
reply_at_end connections k ending ends =
    found_at_end execution_reply passes_replies connections k ending
    ∙ ap (λ (b : Bool). cons_option (if b then None else Some (reply_due k)) []) ends

no_input_at_end : (connections : Connections) (k : Current) (ending : Ending)
    → filter_map input_in (end_letters connections k ending) ≡ []
no_input_at_end = found_at_end input_in passes_inputs

-- none is found in what is posted for the request itself
none_in_own : {A : Type 0} (f : Letter → Option A)
    (none : (k : Content) (e : Envelope) → IsOwnContent k → f (record { envelope = e; content = k }) ≡ None)
    (connections : Connections) (i : Incoming) (letters : List Letter)
    → AllByRecursion (IsOwn connections i) letters → filter_map f letters ≡ []
none_in_own f none connections i [] owned = refl
none_in_own f none connections i (l ∷ letters) owned =
    ap (λ o. cons_option o (filter_map f letters)) (none l.content l.envelope owned.0.content)
    ∙ none_in_own f none connections i letters owned.1

no_reply : (k : Content) (e : Envelope) → IsOwnContent k
    → execution_reply (record { envelope = e; content = k }) ≡ None
no_reply (content.Status state) e own = absurd own
no_reply (content.ExecuteReply count ending) e own =
    ap (λ (b : Bool). if b then None else Some (e, count)) own
no_reply _ e own = refl

no_input : (k : Content) (e : Envelope) → IsOwnContent k
    → input_in (record { envelope = e; content = k }) ≡ None
no_input (content.ExecuteInput code count) e own = absurd own
no_input _ e own = refl

-- in a request's letters only what the end of a run posts is found
found_in_cut : {A : Type 0} (f : Letter → Option A) (passes : PassesOver f)
    (none : (k : Content) (e : Envelope) → IsOwnContent k → f (record { envelope = e; content = k }) ≡ None)
    (s : KernelState) (i : Incoming) (cut own : List Letter)
    → AllByRecursion (IsOwn s.connections i) own
    → filter_map f (between_busy_and_idle s.connections i.request.header (cut ++ own)) ≡ filter_map f cut
found_in_cut f passes none s i cut own owned =
    found_between f passes s.connections i.request.header (cut ++ own)
    ∙ (filter_map-append f cut own
    ∙ (ap (λ found. filter_map f cut ++ found) (none_in_own f none s.connections i own owned)
    ∙ append-nil (filter_map f cut)))

-- ---- requests

ended_run : (o : Option Current) (pending : Option ℕ) (connections : Connections) (c : Cause) (n : ℕ)
    (queue : List Execution)
    → refuses_cause c ≡ false → IsUnderWay true o pending
    → filter_map execution_reply (letters_of_cut connections o c) ++ due None n queue ≡ due o n queue
ended_run (Some k) pending connections c n queue ends under =
    ap (λ found. found ++ due None n queue) (reply_at_end connections k (Failed c) ends)
ended_run None None connections c n queue ends under = absurd under
ended_run None (Some address) connections c n queue ends under = absurd under

ended_if : (run : Bool) (w : Work) (connections : Connections) (c : Cause) (xs : List Execution)
    → refuses_cause c ≡ false → Agrees run w
    → filter_map execution_reply (letters_of_cut connections (if run then w.current else None) c)
    ++ due_then (if run then clear_current w else w) xs ≡ due_then w xs
ended_if true w connections c xs ends under =
    ended_run w.current w.pending connections c w.count (w.queue ++ xs) ends under
ended_if false w connections c xs ends under = refl

cut_replies : (cut : Option Cause) (s : KernelState) (xs : List Execution) → EndsRuns cut → IsConsistent s
    → filter_map execution_reply (cut_by cut s) ++ due_then (work_by cut s) xs ≡ due_then s.work xs
cut_replies None s xs ends h = refl
cut_replies (Some c) s xs ends h = ended_if (is_run s.board.run) s.work s.connections c xs ends h

no_input_in_cut : (o : Option Current) (connections : Connections) (c : Cause)
    → filter_map input_in (letters_of_cut connections o c) ≡ []
no_input_in_cut None connections c = refl
no_input_in_cut (Some k) connections c = no_input_at_end connections k (Failed c)

same_inputs : (run : Bool) (w : Work) (xs : List Execution)
    → inputs_then (if run then clear_current w else w) xs ≡ inputs_then w xs
same_inputs true w xs = refl
same_inputs false w xs = refl

cut_inputs : (cut : Option Cause) (s : KernelState) (xs : List Execution)
    → filter_map input_in (cut_by cut s) ++ inputs_then (work_by cut s) xs ≡ inputs_then s.work xs
cut_inputs None s xs = refl
cut_inputs (Some c) s xs =
    ap (λ found. found ++ inputs_then (work_by (Some c) s) xs) (no_input_in_cut (cut_of s) s.connections c)
    ∙ same_inputs (is_run s.board.run) s.work xs

cut_end : (cut : Option Cause) (s : KernelState) (run : RunState)
    → is_run run ≡ run_by cut (is_run s.board.run)
    → (filter_map execution_reply (cut_by cut s) ≡ []) ⊎ (run ≡ NoRun)
cut_end None s run is = inl refl
cut_end (Some c) s run is = inr (not_running run is)

queued_due : (xs : List Execution) (w : Work) (later : List Execution)
    → due_then (with_executions xs w) later ≡ due_then w (xs ++ later)
queued_due [] w later = refl
queued_due (x ∷ xs) w later = ap (due w.current w.count) (append_assoc w.queue (x ∷ xs) later)

queued_inputs : (xs : List Execution) (w : Work) (later : List Execution)
    → inputs_then (with_executions xs w) later ≡ inputs_then w (xs ++ later)
queued_inputs [] w later = refl
queued_inputs (x ∷ xs) w later =
    ap (λ queue. filter_map input_due (with_counts w.count queue)) (append_assoc w.queue (x ∷ xs) later)

abbrev AnswersBy : KernelState → Option Incoming → Turn → Type 0
AnswersBy s o t = Answers s (incoming_execution (length s.work.queue) o) t

form_answers : (s : KernelState) (i : Incoming) (t : Turn) → IsConsistent s → HasForm s i t
    → AnswersBy s (Some i) t
form_answers s i t h (exchanged e) =
    let cut = cut_by e.cut s in
    let replies : filter_map execution_reply t.letters ≡ filter_map execution_reply cut =
    ap (filter_map execution_reply) e.letters
    ∙ found_in_cut execution_reply passes_replies no_reply s i cut e.own e.owned in
    let inputs : filter_map input_in t.letters ≡ filter_map input_in cut =
    ap (filter_map input_in) e.letters ∙ found_in_cut input_in passes_inputs no_input s i cut e.own e.owned in
    let R : List CountedEnvelope → Type 0 = λ found. (found ≡ []) ⊎ (t.state.board.run ≡ NoRun) in
    record {
      replies = λ later. ap (λ found. found ++ due_then t.state.work later) replies
          ∙ (ap (λ (w : Work). filter_map execution_reply cut ++ due_then w later) e.work
          ∙ (cut_replies e.cut s later e.ends h
          ∙ sym (ap (λ (xs : List Execution). due_then s.work (xs ++ later)) e.execution)));
      inputs = λ later. ap (λ found. found ++ inputs_then t.state.work later) inputs
          ∙ (ap (λ (w : Work). filter_map input_in cut ++ inputs_then w later) e.work
          ∙ (cut_inputs e.cut s later
          ∙ sym (ap (λ (xs : List Execution). inputs_then s.work (xs ++ later)) e.execution)));
      end = subst R (sym replies) (cut_end e.cut s t.state.board.run e.run);
    }
form_answers s i t h (unposted e) =
    let xs = incoming_execution (length s.work.queue) (Some i) in
    record {
      replies = λ later. ap (λ letters. filter_map execution_reply letters ++ due_then t.state.work later)
          e.letters
          ∙ (ap (λ (w : Work). due_then w later) e.work ∙ queued_due xs s.work later);
      inputs = λ later. ap (λ letters. filter_map input_in letters ++ inputs_then t.state.work later)
          e.letters
          ∙ (ap (λ (w : Work). inputs_then w later) e.work ∙ queued_inputs xs s.work later);
      end = inl (ap (filter_map execution_reply) e.letters);
    }

-- nothing is posted for executions, and they are as before
idle_answers : (s : KernelState) (t : Turn) → filter_map execution_reply t.letters ≡ []
    → filter_map input_in t.letters ≡ [] → t.state.work ≡ s.work → Answers s [] t
idle_answers s t replies inputs work = record {
  replies = λ later. ap (λ found. found ++ due_then t.state.work later) replies
      ∙ ap (λ (w : Work). due_then w later) work;
  inputs = λ later. ap (λ found. found ++ inputs_then t.state.work later) inputs
      ∙ ap (λ (w : Work). inputs_then w later) work;
  end = inl replies;
}

none_in_first : {A : Type 0} (f : Letter → Option A) (passes : PassesOver f) (n : ℕ) (prefix : Bytes)
    (s : KernelState)
    → filter_map f (first_status n prefix s) ≡ []
none_in_first f passes n prefix s =
    either (λ letters. filter_map f letters ≡ []) (starts_with (λ x y. x == y) (codes "status") prefix)
    (status_to n s ∷ []) [] (ap (λ o. cons_option o []) (passes.status _ _)) refl

other_answers : (s : KernelState) → IsConsistent s → IsOfCalls (AnswersBy s) s
other_answers s h = record {
  refused = λ fault. idle_answers s _ refl refl refl;
  kept = λ reply connections. idle_answers s _ refl refl refl;
  subscribed = λ n prefix unix_seconds. idle_answers s _
      (none_in_first execution_reply passes_replies n prefix s)
      (none_in_first input_in passes_inputs n prefix s)
      refl;
  requested = λ i unix_seconds. form_answers s i _ h (request_form i unix_seconds s);
}

-- ---- a slice of the run

abbrev pub goes_on : SliceOutcome → Bool
goes_on (outcome.End e) = false
goes_on _ = true

no_reply_yet : (e : SliceOutcome) (o : Option Current) (connections : Connections)
    (traffic : List PortOperation)
    → goes_on e ≡ true → filter_map execution_reply (slice_letters_of connections o traffic e) ≡ []
no_reply_yet e None connections traffic goes = refl
no_reply_yet e (Some k) connections traffic goes =
    found_in_slice execution_reply passes_replies connections k traffic e ∙ by e goes
  where
    by : (x : SliceOutcome) → goes_on x ≡ true
        → filter_map execution_reply (outcome_letters connections k x) ≡ []
    by outcome.More is = refl
    by outcome.Waiting is = refl
    by (outcome.Stop _) is = refl
    by (outcome.End _) is = cc

no_input_in_slice : (e : SliceOutcome) (o : Option Current) (connections : Connections)
    (traffic : List PortOperation)
    → filter_map input_in (slice_letters_of connections o traffic e) ≡ []
no_input_in_slice e None connections traffic = refl
no_input_in_slice e (Some k) connections traffic =
    found_in_slice input_in passes_inputs connections k traffic e ∙ by e
  where
    by : (x : SliceOutcome) → filter_map input_in (outcome_letters connections k x) ≡ []
    by outcome.More = refl
    by outcome.Waiting = refl
    by (outcome.Stop _) = refl
    by (outcome.End e) = no_input_at_end connections k (ending_of e)

ended_slice : (e : End) (o : Option Current) (pending : Option ℕ) (connections : Connections)
    (traffic : List PortOperation) (n : ℕ) (queue : List Execution)
    → IsUnderWay true o pending
    → filter_map execution_reply (slice_letters_of connections o traffic (outcome.End e)) ++ due None n queue
    ≡ due o n queue
ended_slice e (Some k) pending connections traffic n queue under =
    ap (λ found. found ++ due None n queue)
    (found_in_slice execution_reply passes_replies connections k traffic (outcome.End e)
    ∙ reply_at_end connections k (ending_of e) (never_refused e))
ended_slice e None None connections traffic n queue under = absurd under
ended_slice e None (Some address) connections traffic n queue under = absurd under

slice_replies : (e : SliceOutcome) (w : Work) (connections : Connections) (traffic : List PortOperation)
    (later : List Execution)
    → Agrees true w
    → filter_map execution_reply (slice_letters_of connections w.current traffic e)
    ++ due_then (work_after e w) later ≡ due_then w later
slice_replies (outcome.End e) w connections traffic later under =
    ended_slice e w.current w.pending connections traffic w.count (w.queue ++ later) under
slice_replies outcome.More w connections traffic later under =
    ap (λ found. found ++ due_then w later) (no_reply_yet outcome.More w.current connections traffic refl)
slice_replies outcome.Waiting w connections traffic later under =
    ap (λ found. found ++ due_then w later) (no_reply_yet outcome.Waiting w.current connections traffic refl)
slice_replies (outcome.Stop x) w connections traffic later under =
    ap (λ found. found ++ due_then w later) (no_reply_yet (outcome.Stop x) w.current connections traffic refl)

slice_inputs : (e : SliceOutcome) (w : Work) (later : List Execution)
    → inputs_then (work_after e w) later ≡ inputs_then w later
slice_inputs (outcome.End e) w later = refl
slice_inputs _ w later = refl

slice_ends : (e : SliceOutcome) (o : Option Current) (connections : Connections)
    (traffic : List PortOperation) (b : Board)
    → (filter_map execution_reply (slice_letters_of connections o traffic e) ≡ [])
    ⊎ ((left_by e b).run ≡ NoRun)
slice_ends (outcome.End e) o connections traffic b = inr refl
slice_ends outcome.More o connections traffic b = inl (no_reply_yet outcome.More o connections traffic refl)
slice_ends outcome.Waiting o connections traffic b =
    inl (no_reply_yet outcome.Waiting o connections traffic refl)
slice_ends (outcome.Stop x) o connections traffic b =
    inl (no_reply_yet (outcome.Stop x) o connections traffic refl)

running_answers : (unix_seconds : ℕ) (s : KernelState) → Agrees true s.work
    → Answers s [] (by_run Running unix_seconds s)
running_answers unix_seconds s under =
    let k = (slice_end s.board).0 in
    let e = (slice_end s.board).1 in
    let traffic = traffic_of k s.board in
    record {
      replies = λ later. slice_replies e s.work s.connections traffic later under;
      inputs = λ later. ap (λ found. found ++ inputs_then (work_after e s.work) later)
          (no_input_in_slice e s.work.current s.connections traffic)
          ∙ slice_inputs e s.work later;
      end = slice_ends e s.work.current s.connections traffic (after_steps k s.board);
    }

-- ---- the next cell

input_if : (is_silent : Bool) (connections : Connections) (k : Current) (rest : List Input)
    → filter_map input_in (if is_silent then [] else publication connections k.execution.header
    (content.ExecuteInput k.execution.request.code k.count) ∷ []) ++ rest
    ≡ cons_option (if is_silent then None else Some (k.execution.header, k.execution.request.code, k.count))
    rest
input_if true connections k rest = refl
input_if false connections k rest = refl

no_reply_in_input : (connections : Connections) (k : Current)
    → filter_map execution_reply (input_letters connections k) ≡ []
no_reply_in_input connections k =
    either (λ letters. filter_map execution_reply letters ≡ []) k.execution.request.is_silent _ _ refl refl

no_input_in_loaded : (l : Loading) (connections : Connections) (k : Current)
    → filter_map input_in (end_of_loading connections k l) ≡ []
no_input_in_loaded (Starts address) connections k = refl
no_input_in_loaded (Ends ending) connections k = no_input_at_end connections k ending

loaded_due : (l : Loading) (connections : Connections) (x : Execution) (n : ℕ) (queue : List Execution)
    → LoadsWell l
    → filter_map execution_reply (end_of_loading connections (current_of x n) l)
    ++ due (under_way x n l) (count_with x n) queue ≡ due None n (x ∷ queue)
loaded_due (Starts address) connections x n queue well = refl
loaded_due (Ends ending) connections x n queue well =
    ap (λ found. found ++ due None (count_with x n) queue)
    (reply_at_end connections (current_of x n) ending well)

loading_replies : (l : Loading) (connections : Connections) (x : Execution) (n : ℕ) (queue : List Execution)
    → LoadsWell l
    → filter_map execution_reply (loading_letters connections (current_of x n) l)
    ++ due (under_way x n l) (count_with x n) queue ≡ due None n (x ∷ queue)
loading_replies l connections x n queue well =
    let k = current_of x n in
    let rest = due (under_way x n l) (count_with x n) queue in
    let ends = filter_map execution_reply (end_of_loading connections k l) in
    ap (λ found. found ++ rest)
    (found_in_loading execution_reply passes_replies connections k l
    ∙ ap (λ found. found ++ ends) (no_reply_in_input connections k))
    ∙ loaded_due l connections x n queue well

loading_inputs : (l : Loading) (connections : Connections) (x : Execution) (n : ℕ) (queue : List Execution)
    → filter_map input_in (loading_letters connections (current_of x n) l)
    ++ filter_map input_due (with_counts (count_with x n) queue) ≡ filter_map input_due
    (with_counts n (x ∷ queue))
loading_inputs l connections x n queue =
    let k = current_of x n in
    let rest = filter_map input_due (with_counts (count_with x n) queue) in
    let inputs = filter_map input_in (input_letters connections k) in
    ap (λ found. found ++ rest)
    (found_in_loading input_in passes_inputs connections k l
    ∙ (ap (λ found. inputs ++ found) (no_input_in_loaded l connections k) ∙ append-nil inputs))
    ∙ input_if x.request.is_silent connections k rest

loading_answers : (queue : List Execution) (unix_seconds : ℕ) (s : KernelState) → s.work.queue ≡ queue
    → s.work.current ≡ None → is_run s.board.run ≡ false → Answers s [] (loading unix_seconds queue s)
loading_answers [] unix_seconds s is current stopped = idle_answers s _ refl refl refl
loading_answers (x ∷ rest) unix_seconds s is current stopped =
    let g = cell_given x.request.code s.board in
    let n = s.work.count in
    let run = kept_after s.board g (kept_load (cell_path x.request.code) x.request.code s.board) in
    record {
      replies = λ later. loading_replies (loading_of g) s.connections x n (rest ++ later) (result_loads g)
          ∙ (sym (ap (λ (queue : List Execution). due None n (queue ++ later)) is)
          ∙ sym (ap (λ o. due o n (s.work.queue ++ later)) current));
      inputs = λ later. loading_inputs (loading_of g) s.connections x n (rest ++ later)
          ∙ sym (ap (λ (queue : List Execution). filter_map input_due (with_counts n (queue ++ later))) is);
      end = inr (not_running _ (run ∙ stopped));
    }

start_answers : (pending : Option ℕ) (unix_seconds : ℕ) (s : KernelState) → is_run s.board.run ≡ false
    → IsUnderWay false s.work.current pending → Answers s [] (by_start pending unix_seconds s)
start_answers None unix_seconds s stopped under =
    loading_answers s.work.queue unix_seconds s refl (none_current s.work.current under) stopped
start_answers (Some address) unix_seconds s stopped under = record {
  replies = λ later. refl;
  inputs = λ later. refl;
  end = inl refl;
}

run_answers : (run : RunState) (unix_seconds : ℕ) (s : KernelState) → s.board.run ≡ run → IsConsistent s
    → Answers s [] (by_run run unix_seconds s)
run_answers Running unix_seconds s is h =
    running_answers unix_seconds s (subst (λ (r : Bool). Agrees r s.work) (ap is_run is) h)
run_answers Stopped unix_seconds s is h = idle_answers s _ refl refl refl
run_answers NoRun unix_seconds s is h =
    start_answers s.work.pending unix_seconds s (ap is_run is)
    (subst (λ (r : Bool). Agrees r s.work) (ap is_run is) h)

-- ---- calls

call_answers : (c : Call) (s : KernelState) → IsConsistent s → Answers s (call_execution c s) (turn c s)
unfolding turn
call_answers (call.Slice unix_seconds) s h =
    either (Answers s []) s.is_shut _ _ (idle_answers s _ refl refl refl)
    (run_answers s.board.run unix_seconds s refl h)
call_answers (call.Join channel identity) s h =
    by_call (AnswersBy s) s (call.Join channel identity) (other_answers s h) tt
call_answers (call.Leave n) s h = by_call (AnswersBy s) s (call.Leave n) (other_answers s h) tt
call_answers (call.Subscribe n c) s h = by_call (AnswersBy s) s (call.Subscribe n c) (other_answers s h) tt
call_answers (call.Arrive n c) s h = by_call (AnswersBy s) s (call.Arrive n c) (other_answers s h) tt
call_answers (call.Fetch n from) s h = by_call (AnswersBy s) s (call.Fetch n from) (other_answers s h) tt

pub call_ends : (c : Call) (s : KernelState) → IsConsistent s
    → (filter_map execution_reply (call_letters c s) ≡ []) ⊎ ((next s c).board.run ≡ NoRun)
call_ends c s h = (call_answers c s h).end

pub calls_reply : (calls : List Call) (s : KernelState) → IsConsistent s
    → filter_map execution_reply (along call_letters calls s)
    ++ map reply_due (not_ended (fold next s calls).work) ≡ due_then s.work (along call_execution calls s)
calls_reply [] s h = ap (due s.work.current s.work.count) (sym (append-nil s.work.queue))
calls_reply (c ∷ calls) s h =
    let here = filter_map execution_reply (call_letters c s) in
    let rest = filter_map execution_reply (along call_letters calls (next s c)) in
    let left = map reply_due (not_ended (fold next (next s c) calls).work) in
    ap (λ found. found ++ left)
    (filter_map-append execution_reply (call_letters c s) (along call_letters calls (next s c)))
    ∙ (append_assoc here rest left
    ∙ (ap (λ found. here ++ found) (calls_reply calls (next s c) (call_agrees c s h))
    ∙ (call_answers c s h).replies (along call_execution calls (next s c))))

pub calls_have_inputs : (calls : List Call) (s : KernelState) → IsConsistent s
    → filter_map input_in (along call_letters calls s)
    ++ filter_map input_due (waiting (fold next s calls).work)
    ≡ inputs_then s.work (along call_execution calls s)
calls_have_inputs [] s h =
    ap (λ queue. filter_map input_due (with_counts s.work.count queue)) (sym (append-nil s.work.queue))
calls_have_inputs (c ∷ calls) s h =
    let here = filter_map input_in (call_letters c s) in
    let rest = filter_map input_in (along call_letters calls (next s c)) in
    let left = filter_map input_due (waiting (fold next (next s c) calls).work) in
    ap (λ found. found ++ left)
    (filter_map-append input_in (call_letters c s) (along call_letters calls (next s c)))
    ∙ (append_assoc here rest left
    ∙ (ap (λ found. here ++ found) (calls_have_inputs calls (next s c) (call_agrees c s h))
    ∙ (call_answers c s h).inputs (along call_execution calls (next s c))))
