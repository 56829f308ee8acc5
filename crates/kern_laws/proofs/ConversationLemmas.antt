-- The messages with one parent that a list of calls posts.
use Rattle.std.proofs.Common.{◌≡◌, ◌≢◌, ◌∙◌, ℕ, ◌+◌, ◌≤◌, List, [], ◌∷◌, ◌++◌, Bool, true, false, Option}
use Rattle.std.proofs.Common.{Some}
use Rattle.std.proofs.Common.{None, refl, sym, ap, subst, map, fold, filter_map, length, append_assoc, ◌==◌}
use Rattle.std.proofs.Common.{arith}
use Rattle.std.proofs.Common.{if◌then◌else◌, cond, nat_lt, inl}
use Rattle.std.specs.Prelude.{option_to_list, codes}
use Rattle.std.specs.List.{AllByRecursion, starts_with, cons_option, count_by, list_any}
use Rattle.std.specs.Str.{bytes_eq}
use Rattle.std.proofs.lemmas.List.{map-append}
use Rattle.std.proofs.lemmas.List.Elements.{filter_map-append}
use Rattle.std.proofs.lemmas.List.Sums.{sum_by-append}
use Rattle.std.proofs.lemmas.Slice.Eq.{bytes_eq-Decides}
use Rattle.base_text.specs.Bytes.{Bytes}
use Rattle.i80_base.specs.declared.ports.PortOperation.{PortOperation}
use Rattle.i80_devs.specs.Console.{written_to_console, wants_line}
use Rattle.lab_core.specs.declared.answer.End.{End}
use Rattle.lab_core.specs.declared.answer.SliceOutcome.{SliceOutcome}
use Rattle.lab_core.specs.declared.answer.SliceOutcome.TheVariants as outcome
use Rattle.lab_core.specs.declared.run_state.RunState.{RunState}
use Rattle.lab_core.specs.declared.run_state.RunState.TheVariants.{NoRun, Running, Stopped}
use Rattle.lab_core.specs.SliceEnds.{slice_end}
use Rattle.lab_core.specs.Slices.{traffic_of}
use Rattle.kern_request.specs.declared.request.RequestBody.{RequestBody}
use Rattle.kern_request.specs.declared.request.RequestBody.TheVariants as request
use Rattle.kern_peers.specs.Connections.{Connections}
use Rattle.kern_post.specs.declared.content.Cause.{Cause}
use Rattle.kern_post.specs.declared.content.Content.{Content}
use Rattle.kern_post.specs.declared.content.Content.TheVariants as content
use Rattle.kern_post.specs.declared.content.Ending.{Ending}
use Rattle.kern_post.specs.declared.content.Ending.TheVariants.{Done, Failed}
use Rattle.kern_post.specs.declared.content.ExecutionState.TheVariants.{Busy, Idle}
use Rattle.kern_post.specs.declared.post.Envelope.{Envelope}
use Rattle.kern_post.specs.declared.post.Letter.{Letter}
use Rattle.kern_exec.specs.declared.execution.Execution.{Execution}
use Rattle.kern_exec.specs.declared.execution.Current.{Current}
use Rattle.kern_exec.specs.declared.loading.Loading.{Loading}
use Rattle.kern_exec.specs.declared.loading.Loading.TheVariants.{Starts, Ends}
use Rattle.kern_exec.specs.Executions.{Work, current_of, under_way, clear_current}
use Rattle.kern_exec.specs.Boards.{is_run, cell_given, loading_of}
use Rattle.kern_exec.specs.Ends.{ending_of, cut_letters as letters_of_cut, error_letters, end_letters}
use Rattle.kern_exec.specs.Ends.{input_letters, stream_letters, line_envelope, to_stdin, input_requests}
use Rattle.kern_exec.specs.Ends.{outcome_letters, slice_letters, loading_letters}
use Rattle.kern_exec.specs.Letters.{publication, between_busy_and_idle}
use Rattle.kern_calls.specs.declared.call.Call.{Call}
use Rattle.kern_calls.specs.declared.call.Call.TheVariants as call
use Rattle.kern_calls.specs.declared.call.Reply.TheVariants as reply
use Rattle.kern_core.specs.States.{KernelState, Turn, refuse_turn, turn_without_posts}
use Rattle.kern_core.specs.Connections.{first_status, status_to, new_subscription}
use Rattle.kern_core.specs.Slices.{letters_of as slice_letters_of, work_after, loading, by_start, by_run}
use Rattle.kern_core.specs.Turns.{turn, next}
use Rattle.kern_laws.specs.Events.{Incoming, incoming, along}
use Rattle.kern_laws.specs.Laws.{type_at_once, body_execution, content_about, IsNoStatus}
use Rattle.kern_laws.specs.Laws.{has_header, call_requests, is_under_way}
use Rattle.kern_laws.proofs.CaseLemmas.{either, IsOfCalls, by_call}
use Rattle.kern_laws.proofs.FormLemmas.{IsOwnContent, IsOwn, HasForm, exchanged, unposted, cut_by}
use Rattle.kern_laws.proofs.FormLemmas.{work_by, envelope_by, with_executions, request_form}
use Rattle.kern_laws.proofs.InvariantLemmas.{IsUnderWay, Agrees, IsConsistent, none_current, call_agrees}
use Rattle.kern_laws.proofs.PieceLemmas.{append-nil}
use Rattle.kern_laws.proofs.HistoryLemmas.{call_letters}
use Rattle.kern_laws.proofs.ExecutionLemmas.{goes_on}
use Rattle.kern_laws.proofs.TalkLemmas.{AreNoStatus, both_no_status, Spoken, spoken_more, Says, says_nothing}
use Rattle.kern_laws.proofs.TalkLemmas.{says_more}
use Rattle.kern_laws.proofs.TalkLemmas.{says_on, says_end_if, Cuts, nothing_cut, run_cut, exchange, one_if}
use Rattle.kern_laws.proofs.TalkLemmas.{says_exchange, says_start, says_ended}

-- ---- letters with one parent

abbrev HaveParent : Bytes → List Letter → Type 0
HaveParent parent letters = AllByRecursion (λ (l : Letter). l.envelope.parent ≡ parent) letters

abbrev contents : List Letter → List Content
contents letters = map (λ (l : Letter). l.content) letters

abbrev about : Bytes → List Letter → List Content
about header letters = filter_map (content_about header) letters

both_have : (parent : Bytes) (xs ys : List Letter) → HaveParent parent xs → HaveParent parent ys
    → HaveParent parent (xs ++ ys)
both_have parent [] ys first second = second
both_have parent (x ∷ xs) ys first second = (first.0, both_have parent xs ys first.1 second)

one_about : (b : Bool) (c : Content) (rest : List Content)
    → cons_option (if b then Some c else None) (if b then rest else []) ≡ (if b then c ∷ rest else [])
one_about true c rest = refl
one_about false c rest = refl

none_about : (b : Bool) → let none : List Content = [] in none ≡ (if b then none else none)
none_about true = refl
none_about false = refl

-- all of them are about this header, or none
pub about_parent : (header parent : Bytes) (letters : List Letter) → HaveParent parent letters
    → about header letters ≡ (if bytes_eq parent header then contents letters else [])
about_parent header parent [] have = none_about (bytes_eq parent header)
about_parent header parent (l ∷ letters) have =
    ap (λ (p : Bytes). cons_option (if bytes_eq p header then Some l.content else None)
    (about header letters))
    have.0
    ∙ (ap (λ rest. cons_option (if bytes_eq parent header then Some l.content else None) rest)
    (about_parent header parent letters have.1)
    ∙ one_about (bytes_eq parent header) l.content (contents letters))

about-append : (header : Bytes) (xs ys : List Letter)
    → about header (xs ++ ys) ≡ about header xs ++ about header ys
about-append header xs ys = filter_map-append (content_about header) xs ys

-- ---- the end of an execution

errors_parent : (is_silent : Bool) (connections : Connections) (parent : Bytes) (ending : Ending)
    → HaveParent parent (error_letters is_silent connections parent ending)
errors_parent true connections parent ending = tt
errors_parent false connections parent Done = tt
errors_parent false connections parent (Failed c) = (refl, tt)

errors_no_status : (is_silent : Bool) (connections : Connections) (parent : Bytes) (ending : Ending)
    → AreNoStatus (contents (error_letters is_silent connections parent ending))
errors_no_status true connections parent ending = tt
errors_no_status false connections parent Done = tt
errors_no_status false connections parent (Failed c) = (tt, tt)

abbrev errors : Connections → Current → Ending → List Letter
errors connections k ending =
    error_letters k.execution.request.is_silent connections k.execution.header ending

-- what it says before idle
abbrev last_words : Connections → Current → Ending → List Content
last_words connections k ending =
    contents (errors connections k ending) ++ content.ExecuteReply k.count ending ∷ []

last_no_status : (connections : Connections) (k : Current) (ending : Ending)
    → AreNoStatus (last_words connections k ending)
last_no_status connections k ending =
    both_no_status (contents (errors connections k ending)) _
    (errors_no_status k.execution.request.is_silent connections k.execution.header ending) (tt, tt)

end_parent : (connections : Connections) (k : Current) (ending : Ending)
    → HaveParent k.execution.header (end_letters connections k ending)
end_parent connections k ending =
    both_have k.execution.header (errors connections k ending) _
    (errors_parent k.execution.request.is_silent connections k.execution.header ending) (refl, (refl, tt))

end_contents : (connections : Connections) (k : Current) (ending : Ending)
    → contents (end_letters connections k ending)
    ≡ last_words connections k ending ++ content.Status Idle ∷ []
end_contents connections k ending =
    let reply = content.ExecuteReply k.count ending in
    map-append (λ (l : Letter). l.content) (errors connections k ending) _
    ∙ sym (append_assoc (contents (errors connections k ending)) (reply ∷ []) (content.Status Idle ∷ []))

end_about : (header : Bytes) (connections : Connections) (k : Current) (ending : Ending)
    → about header (end_letters connections k ending)
    ≡ (if bytes_eq k.execution.header header
    then last_words connections k ending ++ content.Status Idle ∷ [] else [])
end_about header connections k ending =
    about_parent header k.execution.header (end_letters connections k ending)
    (end_parent connections k ending)
    ∙ ap (λ (cs : List Content). if bytes_eq k.execution.header header then cs else [])
    (end_contents connections k ending)

-- ---- turns

-- how many of the executions that wait have this header
abbrev waits_with : Bytes → List Execution → ℕ
waits_with header queue = count_by (λ (x : Execution). bytes_eq x.header header) queue

abbrev Talks : Bytes → KernelState → Option Incoming → Turn → Type 0
Talks header s o t =
    Says (is_under_way header s.work.current) (waits_with header s.work.queue)
    (count_by (has_header header) (option_to_list o)) (about header t.letters)
    (is_under_way header t.state.work.current) (waits_with header t.state.work.queue)

silent_talks : (header : Bytes) (s : KernelState) (o : Option Incoming) (t : Turn)
    → about header t.letters ≡ []
    → t.state.work ≡ s.work → Talks header s o t
silent_talks header s o t said work =
    let is = is_under_way header s.work.current in
    let n = waits_with header s.work.queue in
    let f = count_by (has_header header) (option_to_list o) in
    let P : List Content → Type 0 = λ cs. Says is n f cs (is_under_way header t.state.work.current)
    (waits_with header t.state.work.queue) in
    let Q : Work → Type 0 = λ w. Says is n f [] (is_under_way header w.current) (waits_with header w.queue) in
    subst P (sym said) (subst Q (sym work) (says_nothing is n n f (omega arith)))

-- ---- requests

cuts_current : (o : Option Current) (header : Bytes) (connections : Connections) (c : Cause)
    → Cuts (is_under_way header o) (about header (letters_of_cut connections o c)) false
cuts_current None header connections c = nothing_cut refl refl
cuts_current (Some k) header connections c =
    run_cut (last_words connections k (Failed c)) (last_no_status connections k (Failed c))
    (end_about header connections k (Failed c)) refl

cuts_if : (run : Bool) (w : Work) (header : Bytes) (connections : Connections) (c : Cause)
    → Cuts (is_under_way header w.current)
    (about header (letters_of_cut connections (if run then w.current else None) c))
    (is_under_way header (if run then clear_current w else w).current)
cuts_if true w header connections c = cuts_current w.current header connections c
cuts_if false w header connections c = nothing_cut refl refl

cuts_by : (cut : Option Cause) (header : Bytes) (s : KernelState)
    → Cuts (is_under_way header s.work.current) (about header (cut_by cut s))
    (is_under_way header (work_by cut s).current)
cuts_by None header s = nothing_cut refl refl
cuts_by (Some c) header s = cuts_if (is_run s.board.run) s.work header s.connections c

cut_queue : (cut : Option Cause) (s : KernelState) → (work_by cut s).queue ≡ s.work.queue
cut_queue None s = refl
cut_queue (Some c) s =
    either (λ (w : Work). w.queue ≡ s.work.queue) (is_run s.board.run) (clear_current s.work) s.work refl refl

envelope_parent : (o : Option (List ℕ)) (connections : Connections) (i : Incoming) (c : Content)
    → (envelope_by o connections i c).parent ≡ i.request.header
envelope_parent None connections i c = refl
envelope_parent (Some type) connections i c = refl

own_parent : (connections : Connections) (i : Incoming) (letters : List Letter)
    → AllByRecursion (IsOwn connections i) letters → HaveParent i.request.header letters
own_parent connections i [] owned = tt
own_parent connections i (l ∷ letters) owned = (
  ap (λ (e : Envelope). e.parent) owned.0.envelope
      ∙ envelope_parent (type_at_once l.content) connections i l.content,
  own_parent connections i letters owned.1,
)

own_no_status : (c : Content) → IsOwnContent c → IsNoStatus c
own_no_status (content.Status state) own = absurd own
own_no_status _ own = tt

own_words : (connections : Connections) (i : Incoming) (letters : List Letter)
    → AllByRecursion (IsOwn connections i) letters → AreNoStatus (contents letters)
own_words connections i [] owned = tt
own_words connections i (l ∷ letters) owned =
    (own_no_status l.content owned.0.content, own_words connections i letters owned.1)

exchange_is : (b : Bool) (cut own : List Content)
    → cons_option (if b then Some (content.Status Busy) else None) ((cut ++ (if b then own else []))
    ++ cons_option (if b then Some (content.Status Idle) else None) []) ≡ exchange b cut own
exchange_is true cut own =
    ap (λ cs. content.Status Busy ∷ cs) (append_assoc cut own (content.Status Idle ∷ []))
exchange_is false cut own = append-nil (cut ++ []) ∙ append-nil cut

exchange_about : (header : Bytes) (s : KernelState) (i : Incoming) (cut own : List Letter)
    → AllByRecursion (IsOwn s.connections i) own
    → about header (between_busy_and_idle s.connections i.request.header (cut ++ own))
    ≡ exchange (bytes_eq i.request.header header) (about header cut) (contents own)
exchange_about header s i cut own owned =
    let b = bytes_eq i.request.header header in
    let idle = publication s.connections i.request.header (content.Status Idle) ∷ [] in
    ap (λ (cs : List Content). cons_option (if b then Some (content.Status Busy) else None) cs)
    (about-append header (cut ++ own) idle
    ∙ ap (λ (cs : List Content). cs ++ about header idle)
    (about-append header cut own
    ∙ ap (λ (cs : List Content). about header cut ++ cs)
    (about_parent header i.request.header own (own_parent s.connections i own owned))))
    ∙ exchange_is b (about header cut) (contents own)

executions_with : (header : Bytes) (n : ℕ) (i : Incoming) (b : RequestBody)
    → waits_with header (body_execution n i b) ≤ one_if (bytes_eq i.request.header header) + 0
executions_with header n i (request.Execute x) =
    either (λ (xs : List Execution). waits_with header xs ≤ one_if (bytes_eq i.request.header header) + 0)
    (nat_lt n 64) _ _ (omega arith) (omega arith)
executions_with header n i _ = omega arith

queued_current : (xs : List Execution) (header : Bytes) (w : Work)
    → is_under_way header (with_executions xs w).current ≡ is_under_way header w.current
queued_current [] header w = refl
queued_current (x ∷ xs) header w = refl

queued_with : (xs : List Execution) (header : Bytes) (w : Work)
    → waits_with header (with_executions xs w).queue ≡ waits_with header w.queue + waits_with header xs
queued_with [] header w = omega arith
queued_with (x ∷ xs) header w =
    sum_by-append (λ (y : Execution). cond (bytes_eq y.header header) 1 0) w.queue (x ∷ xs)

form_talks : (header : Bytes) (s : KernelState) (i : Incoming) (t : Turn) → HasForm s i t
    → Talks header s (Some i) t
form_talks header s i t (exchanged e) =
    let is = is_under_way header s.work.current in
    let n = waits_with header s.work.queue in
    let b = bytes_eq i.request.header header in
    let f = count_by (has_header header) (i ∷ []) in
    let said : about header t.letters ≡ exchange b (about header (cut_by e.cut s)) (contents e.own) =
    ap (about header) e.letters ∙ exchange_about header s i (cut_by e.cut s) e.own e.owned in
    let P : List Content → Type 0 = λ cs. Says is n f cs (is_under_way header t.state.work.current)
    (waits_with header t.state.work.queue) in
    let Q : Work → Type 0 = λ w. Says is n f (exchange b (about header (cut_by e.cut s)) (contents e.own))
    (is_under_way header w.current) (waits_with header w.queue) in
    let same : waits_with header (work_by e.cut s).queue ≡ n = ap (waits_with header) (cut_queue e.cut s) in
    subst P (sym said) (subst Q (sym e.work)
    (says_more is (is_under_way header (work_by e.cut s).current) n n (one_if b) n
    (waits_with header (work_by e.cut s).queue) f _ (omega arith) (omega arith) (omega arith)
    (says_exchange b is n (about header (cut_by e.cut s)) (contents e.own)
    (is_under_way header (work_by e.cut s).current) (own_words s.connections i e.own e.owned)
    (cuts_by e.cut header s))))
form_talks header s i t (unposted e) =
    let is = is_under_way header s.work.current in
    let n = waits_with header s.work.queue in
    let f = count_by (has_header header) (i ∷ []) in
    let xs = body_execution (length s.work.queue) i i.request.body in
    let P : List Content → Type 0 = λ cs. Says is n f cs (is_under_way header t.state.work.current)
    (waits_with header t.state.work.queue) in
    let Q : Work → Type 0 = λ w. Says is n f [] (is_under_way header w.current) (waits_with header w.queue) in
    let R : Bool → Type 0 = λ b. Says is n f [] b (waits_with header (with_executions xs s.work).queue) in
    let count = queued_with xs header s.work in
    let few = executions_with header (length s.work.queue) i i.request.body in
    subst P (sym (ap (about header) e.letters)) (subst Q (sym e.work)
    (subst R (sym (queued_current xs header s.work)) (says_nothing is n _ f (omega arith))))

none_of_first : (header : Bytes) (n : ℕ) (prefix : Bytes) (s : KernelState)
    → bytes_eq (codes "{}") header ≡ false → about header (first_status n prefix s) ≡ []
none_of_first header n prefix s other =
    either (λ letters. about header letters ≡ []) (starts_with (λ x y. x == y) (codes "status") prefix)
    (status_to n s ∷ []) []
    (ap (λ (b : Bool). cons_option (if b then Some (status_to n s).content else None) []) other) refl

other_talks : (header : Bytes) (s : KernelState) → bytes_eq (codes "{}") header ≡ false
    → IsOfCalls (Talks header s) s
other_talks header s other = record {
  refused = λ fault. silent_talks header s None (refuse_turn fault s) refl refl;
  kept = λ reply connections.
      silent_talks header s None (turn_without_posts reply (record s { connections = connections })) refl
      refl;
  subscribed = λ n prefix unix_seconds.
      silent_talks header s None (new_subscription n prefix unix_seconds s)
      (none_of_first header n prefix s other)
      refl;
  requested = λ i unix_seconds. form_talks header s i _ (request_form i unix_seconds s);
}

-- ---- a slice of the run

stream_parent : (connections : Connections) (k : Current) (bytes : Bytes)
    → HaveParent k.execution.header (stream_letters connections k bytes)
stream_parent connections k [] = tt
stream_parent connections k (byte ∷ bytes) =
    either (HaveParent k.execution.header) k.execution.request.is_silent _ _ tt (refl, tt)

stream_words : (connections : Connections) (k : Current) (bytes : Bytes)
    → AreNoStatus (contents (stream_letters connections k bytes))
stream_words connections k [] = tt
stream_words connections k (byte ∷ bytes) =
    either (λ letters. AreNoStatus (contents letters)) k.execution.request.is_silent _ _ tt (tt, tt)

abbrev ToParent : Bytes → Option Envelope → Type 0
ToParent parent None = Unit {0}
ToParent parent (Some e) = e.parent ≡ parent

stdin_parent : (o : Option ℕ) (k : Current) → ToParent k.execution.header (to_stdin o k)
stdin_parent None k = tt
stdin_parent (Some n) k = refl

line_parent : (connections : Connections) (k : Current)
    → ToParent k.execution.header (line_envelope connections k)
line_parent connections k =
    either (ToParent k.execution.header) k.execution.request.allows_stdin _ _ (stdin_parent _ k) tt

requests_parent : (o : Option Envelope) (wants : Bool) (parent : Bytes) → ToParent parent o
    → HaveParent parent (input_requests o wants)
requests_parent None wants parent to = tt
requests_parent (Some e) wants parent to = either (HaveParent parent) wants _ _ (to, tt) tt

requests_words : (o : Option Envelope) (wants : Bool) → AreNoStatus (contents (input_requests o wants))
requests_words None wants = tt
requests_words (Some e) wants = either (λ letters. AreNoStatus (contents letters)) wants _ _ (tt, tt) tt

-- a slice's letters before those of its outcome
abbrev spoken_first : Connections → Current → List PortOperation → List Letter
spoken_first connections k traffic =
    stream_letters connections k (filter_map written_to_console traffic)
    ++ input_requests (line_envelope connections k) (list_any wants_line traffic)

first_parent : (connections : Connections) (k : Current) (traffic : List PortOperation)
    → HaveParent k.execution.header (spoken_first connections k traffic)
first_parent connections k traffic =
    both_have k.execution.header (stream_letters connections k (filter_map written_to_console traffic)) _
    (stream_parent connections k (filter_map written_to_console traffic))
    (requests_parent (line_envelope connections k) _ k.execution.header (line_parent connections k))

first_words : (connections : Connections) (k : Current) (traffic : List PortOperation)
    → AreNoStatus (contents (spoken_first connections k traffic))
first_words connections k traffic =
    let stream = stream_letters connections k (filter_map written_to_console traffic) in
    let requests = input_requests (line_envelope connections k) (list_any wants_line traffic) in
    subst AreNoStatus (sym (map-append (λ (l : Letter). l.content) stream requests))
    (both_no_status (contents stream) (contents requests)
    (stream_words connections k (filter_map written_to_console traffic))
    (requests_words (line_envelope connections k) _))

slice_is : (connections : Connections) (k : Current) (traffic : List PortOperation) (e : SliceOutcome)
    → slice_letters connections k traffic e
    ≡ spoken_first connections k traffic ++ outcome_letters connections k e
slice_is connections k traffic e =
    sym (append_assoc (stream_letters connections k (filter_map written_to_console traffic)) _
    (outcome_letters connections k e))

-- a slice that doesn't end the run
slice_goes_on : (header : Bytes) (connections : Connections) (k : Current) (traffic : List PortOperation)
    (e : SliceOutcome) (n : ℕ)
    → HaveParent k.execution.header (outcome_letters connections k e)
    → AreNoStatus (contents (outcome_letters connections k e))
    → Says (bytes_eq k.execution.header header) n 0 (about header (slice_letters connections k traffic e))
    (bytes_eq k.execution.header header) n
slice_goes_on header connections k traffic e n parent words =
    let first = spoken_first connections k traffic in
    let last = outcome_letters connections k e in
    let b = bytes_eq k.execution.header header in
    let P : List Content → Type 0 = λ cs. Says b n 0 cs b n in
    let said = ap (about header) (slice_is connections k traffic e)
    ∙ about_parent header k.execution.header (first ++ last)
    (both_have k.execution.header first last (first_parent connections k traffic) parent) in
    subst P (sym said) (says_on b n (contents (first ++ last))
    (subst AreNoStatus (sym (map-append (λ (l : Letter). l.content) first last))
    (both_no_status (contents first) (contents last) (first_words connections k traffic) words)))

-- a slice that ends it
slice_ends : (header : Bytes) (connections : Connections) (k : Current) (traffic : List PortOperation)
    (x : End) (n : ℕ)
    → Says (bytes_eq k.execution.header header) n 0
    (about header (slice_letters connections k traffic (outcome.End x))) false n
slice_ends header connections k traffic x n =
    let first = spoken_first connections k traffic in
    let last = end_letters connections k (ending_of x) in
    let words = last_words connections k (ending_of x) in
    let b = bytes_eq k.execution.header header in
    let P : List Content → Type 0 = λ cs. Says b n 0 cs false n in
    let said = ap (about header) (slice_is connections k traffic (outcome.End x))
    ∙ (about_parent header k.execution.header (first ++ last)
    (both_have k.execution.header first last (first_parent connections k traffic)
    (end_parent connections k (ending_of x)))
    ∙ ap (λ (cs : List Content). if b then cs else [])
    (map-append (λ (l : Letter). l.content) first last
    ∙ (ap (λ cs. contents first ++ cs) (end_contents connections k (ending_of x))
    ∙ sym (append_assoc (contents first) words (content.Status Idle ∷ []))))) in
    subst P (sym said) (says_end_if b n (contents first ++ words)
    (both_no_status (contents first) words (first_words connections k traffic)
    (last_no_status connections k (ending_of x))))

slice_says : (e : SliceOutcome) (o : Option Current) (header : Bytes) (connections : Connections)
    (traffic : List PortOperation) (n : ℕ)
    → Says (is_under_way header o) n 0 (about header (slice_letters_of connections o traffic e))
    (is_under_way header (if goes_on e then o else None)) n
slice_says e None header connections traffic n =
    either (λ (o : Option Current). Says false n 0 [] (is_under_way header o) n) (goes_on e) None None
    (says_nothing false n n 0 (omega arith)) (says_nothing false n n 0 (omega arith))
slice_says outcome.More (Some k) header connections traffic n =
    slice_goes_on header connections k traffic outcome.More n tt tt
slice_says outcome.Waiting (Some k) header connections traffic n =
    slice_goes_on header connections k traffic outcome.Waiting n tt tt
slice_says (outcome.Stop x) (Some k) header connections traffic n =
    slice_goes_on header connections k traffic (outcome.Stop x) n (refl, tt) (tt, tt)
slice_says (outcome.End x) (Some k) header connections traffic n =
    slice_ends header connections k traffic x n

slice_work : (e : SliceOutcome) (w : Work)
    → work_after e w ≡ record w { current = if goes_on e then w.current else None }
slice_work outcome.More w = refl
slice_work outcome.Waiting w = refl
slice_work (outcome.Stop x) w = refl
slice_work (outcome.End x) w = refl

running_talks : (header : Bytes) (unix_seconds : ℕ) (s : KernelState)
    → Talks header s None (by_run Running unix_seconds s)
running_talks header unix_seconds s =
    let e = (slice_end s.board).1 in
    let traffic = traffic_of (slice_end s.board).0 s.board in
    let said = about header (slice_letters_of s.connections s.work.current traffic e) in
    let Q : Work → Type 0 = λ w. Says (is_under_way header s.work.current) (waits_with header s.work.queue) 0
    said
    (is_under_way header w.current) (waits_with header w.queue) in
    subst Q (sym (slice_work e s.work))
    (slice_says e s.work.current header s.connections traffic (waits_with header s.work.queue))

-- ---- the next cell

input_parent : (connections : Connections) (k : Current)
    → HaveParent k.execution.header (input_letters connections k)
input_parent connections k =
    either (HaveParent k.execution.header) k.execution.request.is_silent _ _ tt (refl, tt)

input_words : (connections : Connections) (k : Current) → AreNoStatus (contents (input_letters connections k))
input_words connections k =
    either (λ letters. AreNoStatus (contents letters)) k.execution.request.is_silent _ _ tt (tt, tt)

started_says : (header : Bytes) (connections : Connections) (x : Execution) (n : ℕ) (address : ℕ)
    (rest : List Execution)
    → Says false (one_if (bytes_eq x.header header) + waits_with header rest) 0
    (about header (loading_letters connections (current_of x n) (Starts address))) (bytes_eq x.header header)
    (waits_with header rest)
started_says header connections x n address rest =
    let k = current_of x n in
    let b = bytes_eq x.header header in
    let inputs = input_letters connections k in
    let P : List Content → Type 0 = λ cs. Says false
    (one_if (bytes_eq x.header header) + waits_with header rest) 0 cs b
    (waits_with header rest) in
    let said = about_parent header x.header (loading_letters connections k (Starts address))
    (refl, both_have x.header inputs [] (input_parent connections k) tt)
    ∙ ap (λ (cs : List Letter). if b then content.Status Busy ∷ contents cs else []) (append-nil inputs) in
    subst P (sym said)
    (says_start b (waits_with header rest) (contents inputs) (input_words connections k))

ended_says : (header : Bytes) (connections : Connections) (x : Execution) (n : ℕ) (ending : Ending)
    (rest : List Execution)
    → Says false (one_if (bytes_eq x.header header) + waits_with header rest) 0
    (about header (loading_letters connections (current_of x n) (Ends ending))) false (waits_with header rest)
ended_says header connections x n ending rest =
    let k = current_of x n in
    let b = bytes_eq x.header header in
    let inputs = input_letters connections k in
    let words = last_words connections k ending in
    let ends = end_letters connections k ending in
    let P : List Content → Type 0 = λ cs. Says false
    (one_if (bytes_eq x.header header) + waits_with header rest) 0 cs false
    (waits_with header rest) in
    let said = about_parent header x.header (loading_letters connections k (Ends ending))
    (refl, both_have x.header inputs ends (input_parent connections k) (end_parent connections k ending))
    ∙ ap (λ (cs : List Content). if b then content.Status Busy ∷ cs else [])
    (map-append (λ (l : Letter). l.content) inputs ends
    ∙ (ap (λ cs. contents inputs ++ cs) (end_contents connections k ending)
    ∙ sym (append_assoc (contents inputs) words (content.Status Idle ∷ [])))) in
    subst P (sym said)
    (says_ended b (waits_with header rest) (contents inputs ++ words)
    (both_no_status (contents inputs) words (input_words connections k)
    (last_no_status connections k ending)))

loading_says : (l : Loading) (header : Bytes) (connections : Connections) (x : Execution) (n : ℕ)
    (rest : List Execution)
    → Says false (one_if (bytes_eq x.header header) + waits_with header rest) 0
    (about header (loading_letters connections (current_of x n) l))
    (is_under_way header (under_way x n l)) (waits_with header rest)
loading_says (Starts address) header connections x n rest = started_says header connections x n address rest
loading_says (Ends ending) header connections x n rest = ended_says header connections x n ending rest

first_waits : (header : Bytes) (x : Execution) (rest : List Execution)
    → waits_with header (x ∷ rest) ≡ one_if (bytes_eq x.header header) + waits_with header rest
first_waits header x rest =
    let both = sum_by-append (λ (y : Execution). cond (bytes_eq y.header header) 1 0) (x ∷ []) rest in
    omega arith

loading_talks : (queue : List Execution) (header : Bytes) (unix_seconds : ℕ) (s : KernelState)
    → s.work.queue ≡ queue → s.work.current ≡ None → Talks header s None (loading unix_seconds queue s)
loading_talks [] header unix_seconds s is current =
    silent_talks header s None (turn_without_posts reply.Idle s) refl refl
loading_talks (x ∷ rest) header unix_seconds s is current =
    let l = loading_of (cell_given x.request.code s.board) in
    let said = about header (loading_letters s.connections (current_of x s.work.count) l) in
    let P : Option Current → Type 0 = λ o. Says (is_under_way header o) (waits_with header s.work.queue) 0
    said
    (is_under_way header (under_way x s.work.count l)) (waits_with header rest) in
    let Q : List Execution → Type 0 = λ queue. Says false (waits_with header queue) 0 said
    (is_under_way header (under_way x s.work.count l)) (waits_with header rest) in
    let R : ℕ → Type 0 = λ n. Says false n 0 said (is_under_way header (under_way x s.work.count l))
    (waits_with header rest) in
    subst P (sym current) (subst Q (sym is) (subst R (sym (first_waits header x rest))
    (loading_says l header s.connections x s.work.count rest)))

start_talks : (pending : Option ℕ) (header : Bytes) (unix_seconds : ℕ) (s : KernelState)
    → IsUnderWay false s.work.current pending → Talks header s None (by_start pending unix_seconds s)
start_talks None header unix_seconds s under =
    loading_talks s.work.queue header unix_seconds s refl (none_current s.work.current under)
start_talks (Some address) header unix_seconds s under =
    let n = waits_with header s.work.queue in
    says_nothing (is_under_way header s.work.current) n n 0 (omega arith)

run_talks : (run : RunState) (header : Bytes) (unix_seconds : ℕ) (s : KernelState) → s.board.run ≡ run
    → IsConsistent s → Talks header s None (by_run run unix_seconds s)
run_talks Running header unix_seconds s is h = running_talks header unix_seconds s
run_talks Stopped header unix_seconds s is h =
    silent_talks header s None (turn_without_posts reply.Idle s) refl refl
run_talks NoRun header unix_seconds s is h =
    start_talks s.work.pending header unix_seconds s
    (subst (λ (r : Bool). Agrees r s.work) (ap is_run is) h)

-- ---- calls

call_talks : (header : Bytes) (c : Call) (s : KernelState) → bytes_eq (codes "{}") header ≡ false
    → IsConsistent s → Talks header s (incoming c s) (turn c s)
unfolding turn
call_talks header (call.Slice unix_seconds) s other h =
    either (Talks header s None) s.is_shut _ _
    (silent_talks header s None (turn_without_posts reply.Ended s) refl refl)
    (run_talks s.board.run header unix_seconds s refl h)
call_talks header (call.Join channel identity) s other h =
    by_call (Talks header s) s (call.Join channel identity) (other_talks header s other) tt
call_talks header (call.Leave n) s other h =
    by_call (Talks header s) s (call.Leave n) (other_talks header s other) tt
call_talks header (call.Subscribe n c) s other h =
    by_call (Talks header s) s (call.Subscribe n c) (other_talks header s other) tt
call_talks header (call.Arrive n c) s other h =
    by_call (Talks header s) s (call.Arrive n c) (other_talks header s other) tt
call_talks header (call.Fetch n from) s other h =
    by_call (Talks header s) s (call.Fetch n from) (other_talks header s other) tt

nothing_said : (is_current : Bool) (n : ℕ) → Spoken is_current is_current n []
nothing_said true n = λ zero_is. ([], tt, inl (refl, refl))
nothing_said false n = (λ zero_is. refl, λ one. inl refl)

pub calls_talk : (header : Bytes) (calls : List Call) (s : KernelState)
    → bytes_eq (codes "{}") header ≡ false → IsConsistent s
    → Spoken (is_under_way header (fold next s calls).work.current) (is_under_way header s.work.current)
    (waits_with header s.work.queue + count_by (has_header header) (along call_requests calls s))
    (about header (along call_letters calls s))
calls_talk header [] s other h = nothing_said (is_under_way header s.work.current) _
calls_talk header (c ∷ calls) s other h =
    let s' = next s c in
    let last = is_under_way header (fold next s' calls).work.current in
    let is = is_under_way header s.work.current in
    let n = waits_with header s.work.queue in
    let more = count_by (has_header header) (along call_requests calls s') in
    let here = about header (call_letters c s) in
    let rest = about header (along call_letters calls s') in
    let count = sum_by-append (λ (i : Incoming). cond (has_header header i) 1 0) (call_requests c s)
    (along call_requests calls s') in
    let P : List Content → Type 0 = λ cs. Spoken last is
    (n + count_by (has_header header) (along call_requests (c ∷ calls) s)) cs in
    subst P (sym (about-append header (call_letters c s) (along call_letters calls s')))
    (spoken_more last is _ _ (here ++ rest) (omega arith)
    (call_talks header c s other h last more rest (calls_talk header calls s' other (call_agrees c s h))))

-- a header that no message without a request has
pub has_request : (header : Bytes) → header ≢ codes "{}" → bytes_eq (codes "{}") header ≡ false
has_request header other = by (bytes_eq (codes "{}") header) refl
  where
    by : (b : Bool) → bytes_eq (codes "{}") header ≡ b → bytes_eq (codes "{}") header ≡ false
    by false is = is
    by true is = absurd (other (sym ((bytes_eq-Decides (codes "{}") header).0 is)))
