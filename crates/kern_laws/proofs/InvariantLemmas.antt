-- An execution is under way exactly while there is a run on the board or a start is pending.
use Rattle.std.proofs.Common.{◌≡◌, ◌∙◌, ℕ, List, [], ◌∷◌, Bool, true, false, Option, Some, None, refl, sym}
use Rattle.std.proofs.Common.{ap, subst, fold, if◌then◌else◌}
use Rattle.lab_core.specs.declared.answer.SliceOutcome.{SliceOutcome}
use Rattle.lab_core.specs.declared.answer.SliceOutcome.TheVariants as outcome
use Rattle.lab_core.specs.declared.run_state.RunState.{RunState}
use Rattle.lab_core.specs.declared.run_state.RunState.TheVariants.{NoRun, Running, Stopped}
use Rattle.lab_core.specs.Board.{Board}
use Rattle.lab_core.specs.Slices.{after_steps, left_by}
use Rattle.lab_core.specs.SliceEnds.{slice_end}
use Rattle.kern_post.specs.declared.content.Cause.{Cause}
use Rattle.kern_exec.specs.declared.execution.Execution.{Execution}
use Rattle.kern_exec.specs.declared.execution.Current.{Current}
use Rattle.kern_exec.specs.declared.loading.Loading.{Loading}
use Rattle.kern_exec.specs.declared.loading.Loading.TheVariants.{Starts, Ends}
use Rattle.kern_exec.specs.Executions.{Work, clear_current, load_first}
use Rattle.kern_exec.specs.Boards.{is_run, cell_given, loading_of}
use Rattle.dap_answers.specs.Murmur.{cell_path}
use Rattle.kern_calls.specs.declared.call.Call.{Call}
use Rattle.kern_calls.specs.declared.call.Call.TheVariants as call
use Rattle.kern_core.specs.States.{KernelState, Turn}
use Rattle.kern_core.specs.Slices.{work_after, by_start, by_run, loading, slicing}
use Rattle.kern_core.specs.Turns.{turn, next}
use Rattle.kern_laws.specs.Events.{Incoming}
use Rattle.kern_laws.proofs.CaseLemmas.{either, IsOfCalls, by_call}
use Rattle.kern_laws.proofs.RunLemmas.{kept_after, kept_load, kept_steps}
use Rattle.kern_laws.proofs.FormLemmas.{HasForm, exchanged, unposted, work_by, run_by}
use Rattle.kern_laws.proofs.FormLemmas.{with_executions, request_form}

-- by whether there is a run: the current execution, and its pending start
abbrev pub IsUnderWay : Bool → Option Current → Option ℕ → Type 0
IsUnderWay false None None = Unit {0}
IsUnderWay false None (Some address) = ⊥
IsUnderWay false (Some c) None = ⊥
IsUnderWay false (Some c) (Some address) = Unit {0}
IsUnderWay true None None = ⊥
IsUnderWay true None (Some address) = ⊥
IsUnderWay true (Some c) None = Unit {0}
IsUnderWay true (Some c) (Some address) = ⊥

abbrev pub Agrees : Bool → Work → Type 0
Agrees run w = IsUnderWay run w.current w.pending

abbrev pub IsConsistent : KernelState → Type 0
IsConsistent s = Agrees (is_run s.board.run) s.work

-- ---- requests

ended : (current : Option Current) (pending : Option ℕ) → IsUnderWay true current pending
    → IsUnderWay false None pending
ended None None h = absurd h
ended None (Some address) h = absurd h
ended (Some c) None h = tt
ended (Some c) (Some address) h = absurd h

cut_agrees : (run : Bool) (w : Work) → Agrees run w → Agrees false (if run then clear_current w else w)
cut_agrees true w h = ended w.current w.pending h
cut_agrees false w h = h

ends_agree : (cut : Option Cause) (s : KernelState) → IsConsistent s
    → Agrees (run_by cut (is_run s.board.run)) (work_by cut s)
ends_agree None s h = h
ends_agree (Some c) s h = cut_agrees (is_run s.board.run) s.work h

queued_agrees : (xs : List Execution) (run : Bool) (w : Work) → Agrees run w
    → Agrees run (with_executions xs w)
queued_agrees [] run w h = h
queued_agrees (x ∷ xs) run w h = h

moved : (run run' : Bool) (w w' : Work) → run' ≡ run → w' ≡ w → Agrees run w → Agrees run' w'
moved run run' w w' run_is work_is h =
    subst (λ r. Agrees r w') (sym run_is) (subst (λ k. Agrees run k) (sym work_is) h)

form_agrees : (s : KernelState) (i : Incoming) (t : Turn) → IsConsistent s → HasForm s i t
    → IsConsistent t.state
form_agrees s i t h (exchanged e) = moved _ _ _ _ e.run e.work (ends_agree e.cut s h)
form_agrees s i t h (unposted e) = moved _ _ _ _ e.run e.work (queued_agrees _ (is_run s.board.run) s.work h)

-- ---- slices

left_agrees : (ending : SliceOutcome) (b : Board) (w : Work) → is_run b.run ≡ true → Agrees true w
    → Agrees (is_run (left_by ending b).run) (work_after ending w)
left_agrees outcome.More b w is h = subst (λ r. Agrees r w) (sym is) h
left_agrees outcome.Waiting b w is h = subst (λ r. Agrees r w) (sym is) h
left_agrees (outcome.Stop _) b w is h = h
left_agrees (outcome.End e) b w is h = ended w.current w.pending h

started_agrees : (current : Option Current) (address : ℕ) → IsUnderWay false current (Some address)
    → IsUnderWay true current None
started_agrees None address h = absurd h
started_agrees (Some c) address h = tt

loaded_agrees : (l : Loading) (x : Execution) (rest : List Execution) (w : Work)
    → Agrees false (load_first x rest l w)
loaded_agrees (Starts address) x rest w = tt
loaded_agrees (Ends ending) x rest w = tt

pub none_current : (current : Option Current) → IsUnderWay false current None → current ≡ None
none_current None h = refl
none_current (Some c) h = absurd h

loading_agrees : (queue : List Execution) (unix_seconds : ℕ) (s : KernelState) → IsConsistent s
    → is_run s.board.run ≡ false → IsConsistent (loading unix_seconds queue s).state
loading_agrees [] unix_seconds s h is = h
loading_agrees (x ∷ rest) unix_seconds s h is =
    let g = cell_given x.request.code s.board in
    let run = kept_after s.board g (kept_load (cell_path x.request.code) x.request.code s.board) in
    subst (λ r. Agrees r (load_first x rest (loading_of g) s.work)) (sym (run ∙ is))
    (loaded_agrees (loading_of g) x rest s.work)

start_agrees : (pending : Option ℕ) (unix_seconds : ℕ) (s : KernelState) → IsConsistent s
    → is_run s.board.run ≡ false → IsUnderWay false s.work.current pending
    → IsConsistent (by_start pending unix_seconds s).state
start_agrees None unix_seconds s h is under = loading_agrees s.work.queue unix_seconds s h is
start_agrees (Some address) unix_seconds s h is under = started_agrees s.work.current address under

run_agrees : (run : RunState) (unix_seconds : ℕ) (s : KernelState) → s.board.run ≡ run → IsConsistent s
    → IsConsistent (by_run run unix_seconds s).state
run_agrees Running unix_seconds s is h =
    let running : is_run s.board.run ≡ true = ap is_run is in
    let k = (slice_end s.board).0 in
    left_agrees (slice_end s.board).1 (after_steps k s.board) s.work
    (ap is_run (kept_steps k s.board) ∙ running) (subst (λ r. Agrees r s.work) running h)
run_agrees Stopped unix_seconds s is h = h
run_agrees NoRun unix_seconds s is h =
    let none : is_run s.board.run ≡ false = ap is_run is in
    start_agrees s.work.pending unix_seconds s h none (subst (λ r. Agrees r s.work) none h)

slice_agrees : (unix_seconds : ℕ) (s : KernelState) → IsConsistent s
    → IsConsistent (slicing unix_seconds s).state
slice_agrees unix_seconds s h =
    either (λ (t : Turn). IsConsistent t.state) s.is_shut _ _ h
    (run_agrees s.board.run unix_seconds s refl h)

-- ---- calls

abbrev IsConsistentAfter : Option Incoming → Turn → Type 0
IsConsistentAfter o t = IsConsistent t.state

other_agrees : (s : KernelState) → IsConsistent s → IsOfCalls IsConsistentAfter s
other_agrees s h = record {
  refused = λ fault. h;
  kept = λ reply connections. h;
  subscribed = λ n prefix unix_seconds. h;
  requested = λ i unix_seconds. form_agrees s i _ h (request_form i unix_seconds s);
}

pub call_agrees : (c : Call) (s : KernelState) → IsConsistent s → IsConsistent (next s c)
unfolding turn
call_agrees (call.Slice unix_seconds) s h = slice_agrees unix_seconds s h
call_agrees (call.Join channel identity) s h =
    by_call IsConsistentAfter s (call.Join channel identity) (other_agrees s h) tt
call_agrees (call.Leave n) s h = by_call IsConsistentAfter s (call.Leave n) (other_agrees s h) tt
call_agrees (call.Subscribe n c) s h = by_call IsConsistentAfter s (call.Subscribe n c) (other_agrees s h) tt
call_agrees (call.Arrive n c) s h = by_call IsConsistentAfter s (call.Arrive n c) (other_agrees s h) tt
call_agrees (call.Fetch n from) s h = by_call IsConsistentAfter s (call.Fetch n from) (other_agrees s h) tt

pub calls_agree : (calls : List Call) (s : KernelState) → IsConsistent s → IsConsistent (fold next s calls)
calls_agree [] s h = h
calls_agree (c ∷ calls) s h = calls_agree calls (next s c) (call_agrees c s h)
