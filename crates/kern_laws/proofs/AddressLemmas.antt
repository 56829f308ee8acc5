-- To whom the letters of each call go.
use Rattle.std.proofs.Common.{◌≡◌, ◌∙◌, ℕ, List, [], ◌∷◌, ◌++◌, Bool, true, false, Option, Some, None, refl}
use Rattle.std.proofs.Common.{sym}
use Rattle.std.proofs.Common.{ap, subst, inl, inr, if◌then◌else◌, ◌==◌, filter_map, nat_lt, length}
use Rattle.std.specs.Prelude.{codes}
use Rattle.std.specs.List.{AllByRecursion, starts_with, list_any}
use Rattle.base_text.specs.Bytes.{Bytes}
use Rattle.i80_base.specs.declared.ports.PortOperation.{PortOperation}
use Rattle.i80_devs.specs.Console.{written_to_console, wants_line}
use Rattle.lab_core.specs.declared.answer.SliceOutcome.{SliceOutcome}
use Rattle.lab_core.specs.declared.answer.SliceOutcome.TheVariants as outcome
use Rattle.lab_core.specs.declared.run_state.RunState.{RunState}
use Rattle.lab_core.specs.declared.run_state.RunState.TheVariants.{NoRun, Running, Stopped}
use Rattle.lab_core.specs.SliceEnds.{slice_end}
use Rattle.lab_core.specs.Slices.{traffic_of}
use Rattle.kern_peers.specs.Connections.{stdin_of, peer_at, has_no_place}
use Rattle.kern_post.specs.declared.content.Cause.{Cause}
use Rattle.kern_post.specs.declared.content.Content.{Content}
use Rattle.kern_post.specs.declared.content.Content.TheVariants as content
use Rattle.kern_post.specs.declared.content.Ending.{Ending}
use Rattle.kern_post.specs.declared.content.Ending.TheVariants.{Done, Failed}
use Rattle.kern_post.specs.declared.post.Envelope.{Envelope}
use Rattle.kern_post.specs.declared.post.Letter.{Letter}
use Rattle.kern_post.specs.Posts.{first_kept}
use Rattle.kern_exec.specs.declared.execution.Execution.{Execution}
use Rattle.kern_exec.specs.declared.execution.Current.{Current}
use Rattle.kern_exec.specs.declared.loading.Loading.{Loading}
use Rattle.kern_exec.specs.declared.loading.Loading.TheVariants.{Starts, Ends}
use Rattle.kern_exec.specs.Executions.{current_of}
use Rattle.kern_exec.specs.Boards.{cell_given, loading_of}
use Rattle.kern_exec.specs.Ends.{ending_of, cut_letters as letters_of_cut, end_letters, end_of_loading}
use Rattle.kern_exec.specs.Ends.{error_letters, outcome_letters, stream_letters}
use Rattle.kern_exec.specs.Ends.{input_letters, input_requests, line_envelope, to_stdin}
use Rattle.kern_exec.specs.Letters.{reply_envelope, between_busy_and_idle}
use Rattle.kern_calls.specs.declared.call.Call.{Call}
use Rattle.kern_calls.specs.declared.call.Call.TheVariants as call
use Rattle.kern_core.specs.States.{KernelState, Turn}
use Rattle.kern_core.specs.Connections.{status_to}
use Rattle.kern_core.specs.Requests.{cut_of}
use Rattle.kern_core.specs.Slices.{letters_of as slice_letters_of, loading, by_start, by_run}
use Rattle.kern_core.specs.Turns.{turn}
use Rattle.kern_laws.specs.Events.{Incoming}
use Rattle.kern_laws.specs.Laws.{type_at_once, IsToOne}
use Rattle.kern_laws.specs.Laws.{IsAddressedBy, IsAddressed}
use Rattle.kern_laws.proofs.CaseLemmas.{either, either_by, by_peers, by_incoming, by_subscribing}
use Rattle.kern_laws.proofs.FormLemmas.{IsOwnContent, IsOwn, HasForm, exchanged, unposted, cut_by}
use Rattle.kern_laws.proofs.FormLemmas.{envelope_by}
use Rattle.kern_laws.proofs.FormLemmas.{request_form}
use Rattle.kern_laws.proofs.HistoryLemmas.{call_letters}

-- ---- lists of letters

abbrev AreAddressed : Call → KernelState → List Letter → Type 0
AreAddressed c s letters = AllByRecursion (IsAddressed c s) letters

both : (c : Call) (s : KernelState) (xs ys : List Letter) → AreAddressed c s xs → AreAddressed c s ys
    → AreAddressed c s (xs ++ ys)
both c s [] ys first second = second
both c s (x ∷ xs) ys first second = (first.0, both c s xs ys first.1 second)

-- ---- the letters of a request

to_one : (n : ℕ) (identities : List (List ℕ)) (parent : Bytes) (e : Envelope)
    → e ≡ reply_envelope n identities parent → IsToOne e
to_one n identities parent e is =
    (n, identities, is ∙ sym (ap (reply_envelope n identities) (ap (λ (x : Envelope). x.parent) is)))

own_addressed : (k : Content) (e : Envelope) (c : Call) (s : KernelState) (i : Incoming) → IsOwnContent k
    → e ≡ envelope_by (type_at_once k) s.connections i k
    → IsAddressedBy k c s (record { envelope = e; content = k })
own_addressed (content.Status state) e c s i own is = absurd own
own_addressed (content.ExecuteInput code count) e c s i own is = absurd own
own_addressed (content.Stream bytes) e c s i own is = absurd own
own_addressed content.InputRequest e c s i own is = absurd own
own_addressed (content.Error fault) e c s i own is =
    (ap (λ (x : Envelope). x.head) is, ap (λ (x : Envelope). x.to) is)
own_addressed (content.CommClose comm_id) e c s i own is =
    (ap (λ (x : Envelope). x.head) is, ap (λ (x : Envelope). x.to) is)
own_addressed (content.DebugEvent event) e c s i own is =
    (ap (λ (x : Envelope). x.head) is, ap (λ (x : Envelope). x.to) is)
own_addressed (content.ExecuteReply count ending) e c s i own is =
    let P : Bool → Type 0 = λ b. e ≡ envelope_by (if b then Some (codes "execute_reply") else None)
    s.connections i (content.ExecuteReply count ending) in
    to_one i.connection i.request.identities i.request.header e (subst P own is)
own_addressed _ e c s i own is = to_one i.connection i.request.identities i.request.header e is

owned_addressed : (letters : List Letter) (c : Call) (s : KernelState) (i : Incoming)
    → AllByRecursion (IsOwn s.connections i) letters → AreAddressed c s letters
owned_addressed [] c s i owned = tt
owned_addressed (l ∷ letters) c s i owned = (
  own_addressed l.content l.envelope c s i owned.0.content owned.0.envelope,
  owned_addressed letters c s i owned.1,
)

-- ---- the letters of an execution

errors_addressed : (is_silent : Bool) (c : Call) (s : KernelState) (parent : Bytes) (ending : Ending)
    → AreAddressed c s (error_letters is_silent s.connections parent ending)
errors_addressed true c s parent ending = tt
errors_addressed false c s parent Done = tt
errors_addressed false c s parent (Failed cause) = ((refl, refl), tt)

end_addressed : (c : Call) (s : KernelState) (k : Current) (ending : Ending)
    → AreAddressed c s (end_letters s.connections k ending)
end_addressed c s k ending =
    both c s (error_letters k.execution.request.is_silent s.connections k.execution.header ending) _
    (errors_addressed k.execution.request.is_silent c s k.execution.header ending)
    ((k.execution.connection, k.execution.identities, refl), (inl (refl, refl), tt))

cut_addressed : (o : Option Current) (c : Call) (s : KernelState) (cause : Cause)
    → AreAddressed c s (letters_of_cut s.connections o cause)
cut_addressed None c s cause = tt
cut_addressed (Some k) c s cause = end_addressed c s k (Failed cause)

by_cut_addressed : (cut : Option Cause) (c : Call) (s : KernelState) → AreAddressed c s (cut_by cut s)
by_cut_addressed None c s = tt
by_cut_addressed (Some cause) c s = cut_addressed (cut_of s) c s cause

exchange_addressed : (c : Call) (s : KernelState) (parent : Bytes) (letters : List Letter)
    → AreAddressed c s letters → AreAddressed c s (between_busy_and_idle s.connections parent letters)
exchange_addressed c s parent letters h =
    (inl (refl, refl), both c s letters _ h (inl (refl, refl), tt))

stream_addressed : (c : Call) (s : KernelState) (k : Current) (bytes : Bytes)
    → AreAddressed c s (stream_letters s.connections k bytes)
stream_addressed c s k [] = tt
stream_addressed c s k (byte ∷ bytes) =
    either (AreAddressed c s) k.execution.request.is_silent _ _ tt ((refl, refl), tt)

stdin_addressed : (o : Option ℕ) (wants : Bool) (c : Call) (s : KernelState) (k : Current)
    → s.work.current ≡ Some k → k.execution.request.allows_stdin ≡ true
    → stdin_of k.execution.identity s.connections.peers ≡ o
    → AreAddressed c s (input_requests (to_stdin o k) wants)
stdin_addressed None wants c s k current allows is = tt
stdin_addressed (Some n) wants c s k current allows is =
    either (AreAddressed c s) wants _ _ ((k, n, current, allows, is, refl), tt) tt

requests_addressed : (wants : Bool) (c : Call) (s : KernelState) (k : Current) → s.work.current ≡ Some k
    → AreAddressed c s (input_requests (line_envelope s.connections k) wants)
requests_addressed wants c s k current =
    let o = stdin_of k.execution.identity s.connections.peers in
    either_by (λ (e : Option Envelope). AreAddressed c s (input_requests e wants))
    k.execution.request.allows_stdin _ _
    (λ allows. stdin_addressed o wants c s k current allows refl) (λ forbids. tt)

outcome_addressed : (e : SliceOutcome) (c : Call) (s : KernelState) (k : Current)
    → AreAddressed c s (outcome_letters s.connections k e)
outcome_addressed outcome.More c s k = tt
outcome_addressed outcome.Waiting c s k = tt
outcome_addressed (outcome.Stop _) c s k = ((refl, refl), tt)
outcome_addressed (outcome.End e) c s k = end_addressed c s k (ending_of e)

slice_addressed : (o : Option Current) (c : Call) (s : KernelState) (traffic : List PortOperation)
    (e : SliceOutcome)
    → s.work.current ≡ o → AreAddressed c s (slice_letters_of s.connections o traffic e)
slice_addressed None c s traffic e current = tt
slice_addressed (Some k) c s traffic e current =
    let bytes = filter_map written_to_console traffic in
    both c s (stream_letters s.connections k bytes) _ (stream_addressed c s k bytes)
    (both c s (input_requests (line_envelope s.connections k) (list_any wants_line traffic)) _
    (requests_addressed (list_any wants_line traffic) c s k current) (outcome_addressed e c s k))

loaded_addressed : (l : Loading) (c : Call) (s : KernelState) (k : Current)
    → AreAddressed c s (end_of_loading s.connections k l)
loaded_addressed (Starts address) c s k = tt
loaded_addressed (Ends ending) c s k = end_addressed c s k ending

-- ---- turns

abbrev TurnIsAddressed : Call → KernelState → Turn → Type 0
TurnIsAddressed c s t = AreAddressed c s t.letters

loading_addressed : (queue : List Execution) (unix_seconds : ℕ) (c : Call) (s : KernelState)
    → TurnIsAddressed c s (loading unix_seconds queue s)
loading_addressed [] unix_seconds c s = tt
loading_addressed (x ∷ rest) unix_seconds c s =
    let k = current_of x s.work.count in (
      inl (refl, refl),
      both c s (input_letters s.connections k) _
          (either (AreAddressed c s) x.request.is_silent _ _ tt ((refl, refl), tt))
          (loaded_addressed (loading_of (cell_given x.request.code s.board)) c s k),
    )

start_addressed : (pending : Option ℕ) (unix_seconds : ℕ) (c : Call) (s : KernelState)
    → TurnIsAddressed c s (by_start pending unix_seconds s)
start_addressed None unix_seconds c s = loading_addressed s.work.queue unix_seconds c s
start_addressed (Some address) unix_seconds c s = tt

run_addressed : (run : RunState) (unix_seconds : ℕ) (c : Call) (s : KernelState)
    → TurnIsAddressed c s (by_run run unix_seconds s)
run_addressed Running unix_seconds c s =
    let end = slice_end s.board in
    slice_addressed s.work.current c s (traffic_of end.0 s.board) end.1 refl
run_addressed Stopped unix_seconds c s = tt
run_addressed NoRun unix_seconds c s = start_addressed s.work.pending unix_seconds c s

form_addressed : (c : Call) (s : KernelState) (i : Incoming) (t : Turn) → HasForm s i t
    → TurnIsAddressed c s t
form_addressed c s i t (exchanged e) =
    subst (AreAddressed c s) (sym e.letters)
    (exchange_addressed c s i.request.header (cut_by e.cut s ++ e.own)
    (both c s (cut_by e.cut s) e.own (by_cut_addressed e.cut c s) (owned_addressed e.own c s i e.owned)))
form_addressed c s i t (unposted e) = subst (AreAddressed c s) (sym e.letters) tt

-- each letter of a call goes where it belongs
pub call_addressed : (c : Call) (s : KernelState) → AreAddressed c s (call_letters c s)
unfolding turn
call_addressed (call.Slice unix_seconds) s =
    let c = call.Slice unix_seconds in
    either (TurnIsAddressed c s) s.is_shut _ _ tt (run_addressed s.board.run unix_seconds c s)
call_addressed (call.Join channel identity) s =
    either (TurnIsAddressed (call.Join channel identity) s)
    (has_no_place channel identity s.connections.peers) _ _ tt tt
call_addressed (call.Leave n) s =
    by_peers (TurnIsAddressed (call.Leave n) s) (peer_at n s.connections.peers) s _ tt (λ p. tt)
call_addressed (call.Subscribe n x) s =
    let c = call.Subscribe n x in
    by_subscribing (TurnIsAddressed c s) n x.wants x.prefix x.unix_seconds s (λ fault. tt) tt
    (either (AreAddressed c s) (starts_with (λ a b. a == b) (codes "status") x.prefix) (status_to n s ∷ []) []
    (inr refl, tt) tt)
call_addressed (call.Arrive n x) s =
    let c = call.Arrive n x in
    by_incoming (λ o t. TurnIsAddressed c s t) (peer_at n s.connections.peers) n x.request x.unix_seconds s tt
    (λ i. form_addressed c s i _ (request_form i x.unix_seconds s))
call_addressed (call.Fetch n from) s =
    by_peers (TurnIsAddressed (call.Fetch n from) s) (peer_at n s.connections.peers) s _ tt (λ p.
    either (TurnIsAddressed (call.Fetch n from) s) (nat_lt from (first_kept (length s.posts))) _ _ tt tt)
