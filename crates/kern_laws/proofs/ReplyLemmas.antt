-- The replies that are sent at once.
use Rattle.std.proofs.Common.{◌≡◌, ◌∙◌, ℕ, List, [], ◌∷◌, ◌++◌, length, Bool, false, Option, Some, None}
use Rattle.std.proofs.Common.{refl, sym, ap, filter_map, if◌then◌else◌, Ok, Err, ◌==◌}
use Rattle.std.specs.Prelude.{option_to_list, codes}
use Rattle.std.specs.List.{starts_with, cons_option}
use Rattle.std.proofs.lemmas.List.Elements.{filter_map-append}
use Rattle.i80_base.specs.declared.ports.PortOperation.{PortOperation}
use Rattle.lab_core.specs.declared.answer.End.{End}
use Rattle.lab_core.specs.declared.answer.End.TheVariants as end
use Rattle.lab_core.specs.declared.answer.SliceOutcome.{SliceOutcome}
use Rattle.lab_core.specs.declared.answer.SliceOutcome.TheVariants as outcome
use Rattle.lab_core.specs.declared.answer.Answer.{Answer}
use Rattle.lab_core.specs.declared.answer.Answer.TheVariants as answer
use Rattle.lab_core.specs.declared.fault.EventFault.{EventFault}
use Rattle.lab_core.specs.declared.fault.EventFault.TheVariants as fault
use Rattle.lab_core.specs.declared.run_state.RunState.{RunState}
use Rattle.lab_core.specs.declared.run_state.RunState.TheVariants.{NoRun, Running, Stopped}
use Rattle.lab_core.specs.Events.{EventResult}
use Rattle.lab_core.specs.SliceEnds.{slice_end}
use Rattle.lab_core.specs.Slices.{traffic_of}
use Rattle.kern_peers.specs.Connections.{Connections}
use Rattle.kern_post.specs.declared.content.Cause.{Cause}
use Rattle.kern_post.specs.declared.content.Ending.{Ending}
use Rattle.kern_post.specs.declared.content.Ending.TheVariants.{Failed}
use Rattle.kern_exec.specs.declared.execution.Execution.{Execution}
use Rattle.kern_exec.specs.declared.execution.Current.{Current}
use Rattle.kern_exec.specs.declared.loading.Loading.{Loading}
use Rattle.kern_exec.specs.declared.loading.Loading.TheVariants.{Starts, Ends}
use Rattle.kern_exec.specs.Executions.{current_of}
use Rattle.kern_exec.specs.Boards.{cause_of, cell_given, loading_of, loading_by}
use Rattle.kern_exec.specs.Ends.{ending_of, cut_letters as letters_of_cut, end_letters}
use Rattle.kern_exec.specs.Ends.{end_of_loading, outcome_letters}
use Rattle.kern_calls.specs.declared.call.Call.{Call}
use Rattle.kern_calls.specs.declared.call.Call.TheVariants as call
use Rattle.kern_core.specs.States.{KernelState, Turn}
use Rattle.kern_core.specs.Connections.{status_to}
use Rattle.kern_core.specs.Requests.{cut_of}
use Rattle.kern_core.specs.Slices.{letters_of as slice_letters_of, loading, by_start, by_run}
use Rattle.kern_core.specs.Turns.{turn}
use Rattle.kern_laws.specs.Events.{Incoming}
use Rattle.kern_laws.specs.Laws.{refuses, refuses_cause, reply_at_once, due_to_request, due_at_once, typed_by}
use Rattle.kern_laws.specs.Laws.{execution_envelope}
use Rattle.kern_laws.proofs.CaseLemmas.{either, IsOfCalls, by_call}
use Rattle.kern_laws.proofs.PieceLemmas.{PassesOver, found_between, found_at_end, found_in_slice}
use Rattle.kern_laws.proofs.PieceLemmas.{found_in_loading}
use Rattle.kern_laws.proofs.FormLemmas.{HasForm, exchanged, unposted, cut_by, EndsRuns}
use Rattle.kern_laws.proofs.FormLemmas.{request_form}
use Rattle.kern_laws.proofs.HistoryLemmas.{call_letters}

-- ---- executions end for other reasons than those for which they are refused

pub never_refused : (e : End) → refuses (ending_of e) ≡ false
never_refused end.Halted = refl
never_refused (end.Undefined opcode pc) = refl

fault_refuses : (f : EventFault) → refuses_cause (cause_of f) ≡ false
fault_refuses (fault.Assembly cell_fault) = refl
fault_refuses fault.SourceNameTaken = refl
fault_refuses _ = refl

-- an execution that ends when it is loaded isn't refused
abbrev pub LoadsWell : Loading → Type 0
LoadsWell (Starts address) = Unit {0}
LoadsWell (Ends ending) = refuses ending ≡ false

answer_loads : (a : Answer) → LoadsWell (loading_by a)
answer_loads (answer.Loaded (Some address)) = tt
answer_loads (answer.Loaded None) = refl
answer_loads _ = refl

pub result_loads : (g : EventResult) → LoadsWell (loading_of g)
result_loads (Ok (a, b)) = answer_loads a
result_loads (Err f) = fault_refuses f

-- ---- no reply of an execution that ends is one of those

pub passes_prompt : PassesOver reply_at_once
passes_prompt = record {
  status = λ e state. refl;
  stream = λ e bytes. refl;
  request = λ e. refl;
  error = λ e c. refl;
}

unprompted_end : (connections : Connections) (c : Current) (ending : Ending) → refuses ending ≡ false
    → filter_map reply_at_once (end_letters connections c ending) ≡ []
unprompted_end connections c ending other =
    found_at_end reply_at_once passes_prompt connections c ending
    ∙ ap (λ (b : Bool). cons_option (typed_by (if b then Some (codes "execute_reply") else None)
    (execution_envelope c.execution)) []) other

unprompted_cut : (o : Option Current) (connections : Connections) (c : Cause) → refuses_cause c ≡ false
    → filter_map reply_at_once (letters_of_cut connections o c) ≡ []
unprompted_cut None connections c other = refl
unprompted_cut (Some k) connections c other = unprompted_end connections k (Failed c) other

unprompted_by : (cut : Option Cause) (s : KernelState) → EndsRuns cut
    → filter_map reply_at_once (cut_by cut s) ≡ []
unprompted_by None s ends = refl
unprompted_by (Some c) s ends = unprompted_cut (cut_of s) s.connections c ends

-- ---- calls

abbrev Prompts : KernelState → Option Incoming → Turn → Type 0
Prompts s o t = filter_map reply_at_once t.letters ≡ option_to_list (due_to_request o (length s.work.queue))

prompt_form : (s : KernelState) (i : Incoming) (t : Turn) → HasForm s i t → Prompts s (Some i) t
prompt_form s i t (exchanged e) =
    ap (filter_map reply_at_once) e.letters
    ∙ (found_between reply_at_once passes_prompt s.connections i.request.header (cut_by e.cut s ++ e.own)
    ∙ (filter_map-append reply_at_once (cut_by e.cut s) e.own
    ∙ (ap (λ found. found ++ filter_map reply_at_once e.own) (unprompted_by e.cut s e.ends) ∙ e.prompt)))
prompt_form s i t (unposted e) = ap (filter_map reply_at_once) e.letters ∙ sym e.prompt

prompt_others : (s : KernelState) → IsOfCalls (Prompts s) s
prompt_others s = record {
  refused = λ fault. refl;
  kept = λ reply connections. refl;
  subscribed = λ n prefix unix_seconds.
      either (λ letters. filter_map reply_at_once letters ≡ [])
      (starts_with (λ x y. x == y) (codes "status") prefix) (status_to n s ∷ []) [] refl refl;
  requested = λ i unix_seconds. prompt_form s i _ (request_form i unix_seconds s);
}

abbrev IsUnprompted : Turn → Type 0
IsUnprompted t = filter_map reply_at_once t.letters ≡ []

unprompted_outcome : (e : SliceOutcome) (connections : Connections) (c : Current)
    → filter_map reply_at_once (outcome_letters connections c e) ≡ []
unprompted_outcome outcome.More connections c = refl
unprompted_outcome outcome.Waiting connections c = refl
unprompted_outcome (outcome.Stop s) connections c = refl
unprompted_outcome (outcome.End e) connections c =
    unprompted_end connections c (ending_of e) (never_refused e)

unprompted_slice : (o : Option Current) (connections : Connections) (traffic : List PortOperation)
    (e : SliceOutcome)
    → filter_map reply_at_once (slice_letters_of connections o traffic e) ≡ []
unprompted_slice None connections traffic e = refl
unprompted_slice (Some c) connections traffic e =
    found_in_slice reply_at_once passes_prompt connections c traffic e ∙ unprompted_outcome e connections c

unprompted_loaded : (l : Loading) (connections : Connections) (c : Current) → LoadsWell l
    → filter_map reply_at_once (end_of_loading connections c l) ≡ []
unprompted_loaded (Starts address) connections c well = refl
unprompted_loaded (Ends ending) connections c well = unprompted_end connections c ending well

unprompted_loading : (queue : List Execution) (unix_seconds : ℕ) (s : KernelState)
    → IsUnprompted (loading unix_seconds queue s)
unprompted_loading [] unix_seconds s = refl
unprompted_loading (x ∷ rest) unix_seconds s =
    let c = current_of x s.work.count in
    let l = loading_of (cell_given x.request.code s.board) in
    let ends = filter_map reply_at_once (end_of_loading s.connections c l) in
    found_in_loading reply_at_once passes_prompt s.connections c l
    ∙ (ap (λ found. found ++ ends)
    (either (λ letters. filter_map reply_at_once letters ≡ []) x.request.is_silent _ _ refl refl)
    ∙ unprompted_loaded l s.connections c (result_loads (cell_given x.request.code s.board)))

unprompted_start : (pending : Option ℕ) (unix_seconds : ℕ) (s : KernelState)
    → IsUnprompted (by_start pending unix_seconds s)
unprompted_start None unix_seconds s = unprompted_loading s.work.queue unix_seconds s
unprompted_start (Some address) unix_seconds s = refl

unprompted_run : (run : RunState) (unix_seconds : ℕ) (s : KernelState)
    → IsUnprompted (by_run run unix_seconds s)
unprompted_run Running unix_seconds s =
    let end = slice_end s.board in
    unprompted_slice s.work.current s.connections (traffic_of end.0 s.board) end.1
unprompted_run Stopped unix_seconds s = refl
unprompted_run NoRun unix_seconds s = unprompted_start s.work.pending unix_seconds s

pub call_prompts : (c : Call) (s : KernelState)
    → filter_map reply_at_once (call_letters c s) ≡ due_at_once c s
unfolding turn
call_prompts (call.Slice unix_seconds) s =
    either IsUnprompted s.is_shut _ _ refl (unprompted_run s.board.run unix_seconds s)
call_prompts (call.Join channel identity) s =
    by_call (Prompts s) s (call.Join channel identity) (prompt_others s) tt
call_prompts (call.Leave n) s = by_call (Prompts s) s (call.Leave n) (prompt_others s) tt
call_prompts (call.Subscribe n c) s = by_call (Prompts s) s (call.Subscribe n c) (prompt_others s) tt
call_prompts (call.Arrive n c) s = by_call (Prompts s) s (call.Arrive n c) (prompt_others s) tt
call_prompts (call.Fetch n from) s = by_call (Prompts s) s (call.Fetch n from) (prompt_others s) tt
