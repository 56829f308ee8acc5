-- A connection that joins is new: nothing names its number, so nothing that was posted is to it.
use Rattle.std.proofs.Common.{◌≡◌, ◌∙◌, ℕ, ◌+◌, ◌-◌, ◌<◌, List, [], ◌∷◌, ◌++◌, length, take, map, Bool}
use Rattle.std.proofs.Common.{true, false, ◌==◌, ◌||◌, Option, Some, None, Ok, Err, refl, sym, ap}
use Rattle.std.proofs.Common.{subst, fold, arith, if◌then◌else◌, nat_lt, filter_map, cond, append-nil}
use Rattle.std.proofs.Common.{append_assoc}
use Rattle.std.specs.Prelude.{option_map, codes, not}
use Rattle.std.specs.List.{AllByRecursion, filter, find, list_any, starts_with}
use Rattle.std.proofs.lemmas.Bool.{eqb-true, ne_eqb}
use Rattle.std.proofs.lemmas.List.Sums.{fold-append}
use Rattle.std.proofs.Math.Seq.{take-append_seam}
use Rattle.base_text.specs.Bytes.{Bytes, Text}
use Rattle.jup_wire.specs.declared.channel.Channel.{Channel}
use Rattle.jup_wire.specs.declared.channel.Channel.TheVariants.{Iopub}
use Rattle.i80_base.specs.declared.ports.PortOperation.{PortOperation}
use Rattle.i80_devs.specs.Console.{written_to_console, wants_line}
use Rattle.lab_core.specs.declared.answer.SliceOutcome.{SliceOutcome}
use Rattle.lab_core.specs.declared.answer.SliceOutcome.TheVariants as outcome
use Rattle.lab_core.specs.declared.run_state.RunState.{RunState}
use Rattle.lab_core.specs.declared.run_state.RunState.TheVariants.{NoRun, Running, Stopped}
use Rattle.lab_core.specs.SliceEnds.{slice_end}
use Rattle.lab_core.specs.Slices.{traffic_of}
use Rattle.kern_request.specs.declared.request.Request.{Request}
use Rattle.kern_request.specs.declared.request.RequestBody.{RequestBody}
use Rattle.kern_request.specs.declared.request.RequestBody.TheVariants as request
use Rattle.kern_peers.specs.declared.peer.Peer.{Peer}
use Rattle.kern_peers.specs.Connections.{Connections, subscribers, is_subscribed, is_number, peer_at}
use Rattle.kern_peers.specs.Connections.{is_empty, is_on, is_full, stdin_of, changed_at, has_no_place}
use Rattle.kern_peers.specs.Connections.{new_peer}
use Rattle.kern_post.specs.declared.content.Cause.{Cause}
use Rattle.kern_post.specs.declared.content.Ending.{Ending}
use Rattle.kern_post.specs.declared.content.Ending.TheVariants.{Done, Failed}
use Rattle.kern_post.specs.declared.post.Envelope.{Envelope}
use Rattle.kern_post.specs.declared.post.Letter.{Letter}
use Rattle.kern_post.specs.declared.post.Post.{Post}
use Rattle.kern_post.specs.Posts.{as_posts, is_to, first_kept}
use Rattle.kern_post.specs.Topics.{topic_of}
use Rattle.kern_exec.specs.declared.execution.Execution.{Execution}
use Rattle.kern_exec.specs.declared.execution.Current.{Current}
use Rattle.kern_exec.specs.declared.loading.Loading.{Loading}
use Rattle.kern_exec.specs.declared.loading.Loading.TheVariants.{Starts, Ends}
use Rattle.kern_exec.specs.Executions.{Work, current_of, under_way}
use Rattle.kern_exec.specs.Boards.{is_run, cell_given, loading_of}
use Rattle.kern_exec.specs.Ends.{ending_of, cut_letters as letters_of_cut, end_letters, end_of_loading}
use Rattle.kern_exec.specs.Ends.{error_letters, outcome_letters, stream_letters, to_stdin}
use Rattle.kern_exec.specs.Ends.{input_letters, input_requests, line_envelope}
use Rattle.kern_exec.specs.Letters.{between_busy_and_idle}
use Rattle.kern_calls.specs.declared.call.Call.{Call}
use Rattle.kern_calls.specs.declared.call.Call.TheVariants as call
use Rattle.kern_calls.specs.declared.call.Reply.TheVariants.{Joined}
use Rattle.kern_calls.specs.declared.fault.KernelFault.{KernelFault}
use Rattle.kern_calls.specs.declared.fault.KernelFault.TheVariants as fault
use Rattle.kern_calls.specs.declared.fault.KernelFault.TheVariants.{Full}
use Rattle.kern_calls.specs.declared.call.Subscription.{Subscription}
use Rattle.kern_core.specs.States.{KernelState, Turn, kernel_before_calls, after, refuse_turn}
use Rattle.kern_core.specs.States.{turn_without_posts}
use Rattle.kern_core.specs.Connections.{status_to, by_peer, subscribing}
use Rattle.kern_core.specs.Requests.{cut_of}
use Rattle.kern_core.specs.Slices.{letters_of as slice_letters_of, loading, by_start, by_run, work_after}
use Rattle.kern_core.specs.Turns.{turn, next, state_after, answer_after}
use Rattle.kern_laws.specs.Events.{Incoming, incoming_from}
use Rattle.kern_laws.specs.Laws.{type_at_once, body_execution, posts_below}
use Rattle.kern_laws.proofs.CaseLemmas.{either, by_peers, by_incoming}
use Rattle.kern_laws.proofs.FormLemmas.{IsOwn, HasForm, exchanged, unposted, cut_by, work_by, envelope_by}
use Rattle.kern_laws.proofs.FormLemmas.{with_executions, request_form}
use Rattle.kern_laws.proofs.HistoryLemmas.{kept_posts}

-- ---- what names only other numbers than c

abbrev IsOther : ℕ → ℕ → Type 0
IsOther c n = (n == c) ≡ false

abbrev NotTo : ℕ → Letter → Type 0
NotTo c l = AllByRecursion (IsOther c) l.envelope.to

abbrev NoneTo : ℕ → List Letter → Type 0
NoneTo c letters = AllByRecursion (NotTo c) letters

abbrev OtherPeers : ℕ → List Peer → Type 0
OtherPeers c peers = AllByRecursion (λ (p : Peer). IsOther c p.number) peers

abbrev OtherPeer : ℕ → Option Peer → Type 0
OtherPeer c None = Unit {0}
OtherPeer c (Some p) = IsOther c p.number

abbrev OtherNumber : ℕ → Option ℕ → Type 0
OtherNumber c None = Unit {0}
OtherNumber c (Some n) = IsOther c n

abbrev OtherIncoming : ℕ → Option Incoming → Type 0
OtherIncoming c None = Unit {0}
OtherIncoming c (Some i) = IsOther c i.connection

abbrev OtherExecutions : ℕ → List Execution → Type 0
OtherExecutions c xs = AllByRecursion (λ (x : Execution). IsOther c x.connection) xs

abbrev OtherCurrent : ℕ → Option Current → Type 0
OtherCurrent c None = Unit {0}
OtherCurrent c (Some k) = IsOther c k.execution.connection

abbrev OtherWork : ℕ → Work → Type 0
OtherWork c w = OtherExecutions c w.queue × OtherCurrent c w.current

-- the number is new to this kernel
record IsNew (c : ℕ) (s : KernelState) : Type 0 where
  pub peers : OtherPeers c s.connections.peers
  pub work : OtherWork c s.work
  pub posts : AllByRecursion (λ (p : Post). NotTo c p.letter) s.posts

-- ---- lists

joined : {A : Type 0} (P : A → Type 0) (xs ys : List A) → AllByRecursion P xs → AllByRecursion P ys
    → AllByRecursion P (xs ++ ys)
joined P [] ys first second = second
joined P (x ∷ xs) ys first second = (first.0, joined P xs ys first.1 second)

some_peers : (c : ℕ) (test : Peer → Bool) (peers : List Peer) → OtherPeers c peers
    → OtherPeers c (filter test peers)
some_peers c test [] h = tt
some_peers c test (p ∷ peers) h =
    either (OtherPeers c) (test p) (p ∷ filter test peers) (filter test peers)
    (h.0, some_peers c test peers h.1) (some_peers c test peers h.1)

peer_numbers : (c : ℕ) (peers : List Peer) → OtherPeers c peers
    → AllByRecursion (IsOther c) (map (λ (p : Peer). p.number) peers)
peer_numbers c [] h = tt
peer_numbers c (p ∷ peers) h = (h.0, peer_numbers c peers h.1)

found_peer : (c : ℕ) (test : Peer → Bool) (peers : List Peer) → OtherPeers c peers
    → OtherPeer c (find test peers)
found_peer c test [] h = tt
found_peer c test (p ∷ peers) h =
    either (OtherPeer c) (test p) (Some p) (find test peers) h.0 (found_peer c test peers h.1)

changed_peers : (c n : ℕ) (change : List Bytes → List Bytes) (peers : List Peer) → OtherPeers c peers
    → OtherPeers c (changed_at n change peers)
changed_peers c n change [] h = tt
changed_peers c n change (p ∷ peers) h =
    either (OtherPeers c) (is_number n p) _ _ (h.0, h.1) (h.0, changed_peers c n change peers h.1)

-- a number that a connection has
number_at : (c n : ℕ) (peers : List Peer) (p : Peer) → OtherPeers c peers → peer_at n peers ≡ Some p
    → IsOther c n
number_at c n [] p h is = absurd (none is)
  where
    none : None ≡ Some p → ⊥
    none e = cc
number_at c n (q ∷ peers) p h is =
    here (q.number == n) refl is (λ found. number_at c n peers p h.1 found)
  where
    here : (b : Bool) → (q.number == n) ≡ b → cond b (Some q) (find (is_number n) peers) ≡ Some p
        → (find (is_number n) peers ≡ Some p → IsOther c n) → IsOther c n
    here true e found later = subst (IsOther c) (eqb-true q.number n e) h.0
    here false e found later = later found

incoming_number : (c : ℕ) (o : Option Peer) (n : ℕ) (r : Request) → ((p : Peer) → o ≡ Some p → IsOther c n)
    → OtherIncoming c (incoming_from o n r)
incoming_number c None n r other = tt
incoming_number c (Some p) n r other = either (OtherIncoming c) (is_on Iopub p) _ _ tt (other p refl)

-- ---- letters

module _ (c : ℕ) (s : KernelState) (new : IsNew c s) where
  to_subscribers : (topic : Text) → AllByRecursion (IsOther c) (subscribers topic s.connections.peers)
  to_subscribers topic =
      peer_numbers c (filter (is_subscribed topic) s.connections.peers)
      (some_peers c (is_subscribed topic) s.connections.peers new.peers)

  own_letters : (i : Incoming) (letters : List Letter) → IsOther c i.connection
      → AllByRecursion (IsOwn s.connections i) letters → NoneTo c letters
  own_letters i [] other own = tt
  own_letters i (l ∷ letters) other own = (
    subst (λ (e : Envelope). AllByRecursion (IsOther c) e.to) (sym own.0.envelope)
        (by_type (type_at_once l.content)),
    own_letters i letters other own.1,
  )
    where
      by_type : (o : Option Text)
          → AllByRecursion (IsOther c) (envelope_by o s.connections i l.content).to
      by_type None = to_subscribers (topic_of l.content)
      by_type (Some type) = (other, tt)

  errors : (is_silent : Bool) (parent : Bytes) (ending : Ending)
      → NoneTo c (error_letters is_silent s.connections parent ending)
  errors true parent ending = tt
  errors false parent Done = tt
  errors false parent (Failed cause) = (to_subscribers _, tt)

  ends : (k : Current) (ending : Ending) → IsOther c k.execution.connection
      → NoneTo c (end_letters s.connections k ending)
  ends k ending other =
      joined (NotTo c) (error_letters k.execution.request.is_silent s.connections k.execution.header ending) _
      (errors k.execution.request.is_silent k.execution.header ending) ((other, tt), (to_subscribers _, tt))

  cuts : (o : Option Current) (cause : Cause) → OtherCurrent c o
      → NoneTo c (letters_of_cut s.connections o cause)
  cuts None cause other = tt
  cuts (Some k) cause other = ends k (Failed cause) other

  cut_current : OtherCurrent c (cut_of s)
  cut_current = either (OtherCurrent c) (is_run s.board.run) s.work.current None new.work.1 tt

  cut : (o : Option Cause) → NoneTo c (cut_by o s)
  cut None = tt
  cut (Some cause) = cuts (cut_of s) cause cut_current

  streams : (k : Current) (bytes : Bytes) → NoneTo c (stream_letters s.connections k bytes)
  streams k [] = tt
  streams k (byte ∷ bytes) =
      either (NoneTo c) k.execution.request.is_silent _ _ tt (to_subscribers _, tt)

  stdin_number : (identity : Bytes) → OtherNumber c (stdin_of identity s.connections.peers)
  stdin_number identity =
      either (OtherNumber c) (is_empty identity) None _ tt
      (mapped (find _ s.connections.peers) (found_peer c _ s.connections.peers new.peers))
    where
      mapped : (o : Option Peer) → OtherPeer c o → OtherNumber c (option_map (λ (p : Peer). p.number) o)
      mapped None other = tt
      mapped (Some p) other = other

  lines : (k : Current) (wants : Bool) → NoneTo c (input_requests (line_envelope s.connections k) wants)
  lines k wants =
      either (λ (e : Option Envelope). NoneTo c (input_requests e wants)) k.execution.request.allows_stdin _ _
      (to_line (stdin_of k.execution.identity s.connections.peers) (stdin_number k.execution.identity)) tt
    where
      to_line : (o : Option ℕ) → OtherNumber c o → NoneTo c (input_requests (to_stdin o k) wants)
      to_line None other = tt
      to_line (Some n) other = either (NoneTo c) wants _ _ ((other, tt), tt) tt

  outcomes : (e : SliceOutcome) (k : Current) → IsOther c k.execution.connection
      → NoneTo c (outcome_letters s.connections k e)
  outcomes outcome.More k other = tt
  outcomes outcome.Waiting k other = tt
  outcomes (outcome.Stop _) k other = (to_subscribers _, tt)
  outcomes (outcome.End e) k other = ends k (ending_of e) other

  slices : (o : Option Current) (traffic : List PortOperation) (e : SliceOutcome) → OtherCurrent c o
      → NoneTo c (slice_letters_of s.connections o traffic e)
  slices None traffic e other = tt
  slices (Some k) traffic e other =
      let bytes = filter_map written_to_console traffic in
      joined (NotTo c) (stream_letters s.connections k bytes) _ (streams k bytes)
      (joined (NotTo c) (input_requests (line_envelope s.connections k) (list_any wants_line traffic)) _
      (lines k (list_any wants_line traffic)) (outcomes e k other))

  loads : (l : Loading) (k : Current) → IsOther c k.execution.connection
      → NoneTo c (end_of_loading s.connections k l)
  loads (Starts address) k other = tt
  loads (Ends ending) k other = ends k ending other

  exchanges : (i : Incoming) (letters : List Letter) → NoneTo c letters
      → NoneTo c (between_busy_and_idle s.connections i.request.header letters)
  exchanges i letters h = (to_subscribers _, joined (NotTo c) letters _ h (to_subscribers _, tt))

-- ---- turns

-- while fewer connections have joined than the number says, nothing names it
abbrev KeepsNew : ℕ → Turn → Type 0
KeepsNew c t = t.state.connections.joined < c → IsNew c t.state × NoneTo c t.letters

by_peers_at : (P : Turn → Type 0) (o : Option Peer) (s : KernelState) (f : Peer → Turn)
    → P (refuse_turn fault.NoConnection s) → ((p : Peer) → o ≡ Some p → P (f p)) → P (by_peer o s f)
by_peers_at P None s f none some = none
by_peers_at P (Some p) s f none some = some p refl

executed : (c waiting : ℕ) (i : Incoming) (b : RequestBody) → IsOther c i.connection
    → OtherExecutions c (body_execution waiting i b)
executed c waiting i (request.Execute x) other =
    either (OtherExecutions c) (nat_lt waiting 64) _ _ (other, tt) tt
executed c waiting i _ other = tt

module _ (c : ℕ) (s : KernelState) (new : s.connections.joined < c → IsNew c s) where
  refused : (f : KernelFault) → KeepsNew c (refuse_turn f s)
  refused f below = (new below, tt)

  loaded : (queue : List Execution) (unix_seconds : ℕ)
      → (s.connections.joined < c → OtherExecutions c queue) → KeepsNew c (loading unix_seconds queue s)
  loaded [] unix_seconds other below = (new below, tt)
  loaded (x ∷ rest) unix_seconds other below =
      let h = new below in
      let k = current_of x s.work.count in
      let l = loading_of (cell_given x.request.code s.board) in (
        record { peers = h.peers; work = ((other below).1, current l); posts = h.posts },
        (
          to_subscribers c s h _,
          joined (NotTo c) (input_letters s.connections k) _
              (either (NoneTo c) x.request.is_silent _ _ tt (to_subscribers c s h _, tt))
              (loads c s h l k (other below).0),
        ),
      )
    where
      current : (l : Loading) → OtherCurrent c (under_way x s.work.count l)
      current (Starts address) = (other below).0
      current (Ends ending) = tt

  started : (pending : Option ℕ) (unix_seconds : ℕ) → KeepsNew c (by_start pending unix_seconds s)
  started None unix_seconds = loaded s.work.queue unix_seconds (λ below. (new below).work.0)
  started (Some address) unix_seconds = λ below. (let h = new below in
      (record { peers = h.peers; work = h.work; posts = h.posts }, tt))

  ran : (run : RunState) (unix_seconds : ℕ) → KeepsNew c (by_run run unix_seconds s)
  ran Running unix_seconds = λ below. (
      let h = new below in
      let end = slice_end s.board in (
        record { peers = h.peers; work = left end.1 h.work; posts = h.posts },
        slices c s h s.work.current (traffic_of end.0 s.board) end.1 h.work.1,
      ))
    where
      left : (e : SliceOutcome) → OtherWork c s.work → OtherWork c (work_after e s.work)
      left outcome.More w = w
      left outcome.Waiting w = w
      left (outcome.Stop _) w = w
      left (outcome.End e) w = (w.0, tt)
  ran Stopped unix_seconds = λ below. (new below, tt)
  ran NoRun unix_seconds = started s.work.pending unix_seconds

  cut_work : (o : Option Cause) → OtherWork c s.work → OtherWork c (work_by o s)
  cut_work None w = w
  cut_work (Some cause) w = either (OtherWork c) (is_run s.board.run) _ _ (w.0, tt) w

  queued : (xs : List Execution) → OtherExecutions c xs → OtherWork c s.work
      → OtherWork c (with_executions xs s.work)
  queued [] other w = w
  queued (x ∷ xs) other w =
      (joined (λ (y : Execution). IsOther c y.connection) s.work.queue (x ∷ xs) w.0 other, w.1)

  moved : (t : Turn) → t.state.connections ≡ s.connections → t.state.posts ≡ s.posts → IsNew c s
      → OtherWork c t.state.work → IsNew c t.state
  moved t connections posts h work = record {
    peers = subst (λ (x : Connections). OtherPeers c x.peers) (sym connections) h.peers;
    work = work;
    posts = subst (AllByRecursion (λ (p : Post). NotTo c p.letter)) (sym posts) h.posts;
  }

  formed : (i : Incoming) (t : Turn) → (s.connections.joined < c → IsOther c i.connection) → HasForm s i t
      → KeepsNew c t
  formed i t other (exchanged e) below =
      let before = subst (λ (x : Connections). x.joined < c) e.connections below in
      let h = new before in (
        moved t e.connections e.posts h (subst (OtherWork c) (sym e.work) (cut_work e.cut h.work)),
        subst (NoneTo c) (sym e.letters)
            (exchanges c s h i (cut_by e.cut s ++ e.own)
            (joined (NotTo c) (cut_by e.cut s) e.own (cut c s h e.cut)
            (own_letters c s h i e.own (other before) e.owned))),
      )
  formed i t other (unposted e) below =
      let before = subst (λ (x : Connections). x.joined < c) e.connections below in
      let h = new before in (
        moved t e.connections e.posts h (subst (OtherWork c) (sym e.work)
            (queued _ (executed c (length s.work.queue) i i.request.body (other before)) h.work)),
        subst (NoneTo c) (sym e.letters) tt,
      )

  subscribed : (n : ℕ) (x : Subscription) → KeepsNew c (subscribing n x.wants x.prefix x.unix_seconds s)
  subscribed n x =
      by_peers_at (KeepsNew c) (peer_at n s.connections.peers) s _ (refused fault.NoConnection) (λ p is.
      either (KeepsNew c) (not (is_on Iopub p)) _ _ (refused fault.NoConnection)
      (either (KeepsNew c) (not x.wants) _ _ (λ below. (changed (new below) _, tt))
      (either (KeepsNew c) (is_full p) _ _ (refused fault.Full) (λ below. (let h = new below in (
        changed h _,
        either (NoneTo c) (starts_with (λ a b. a == b) (codes "status") x.prefix)
            (status_to n s ∷ []) [] ((number_at c n s.connections.peers p h.peers is, tt), tt) tt,
      ))))))
    where
      changed : IsNew c s → (change : List Bytes → List Bytes)
          → IsNew c (record s {
            connections = record s.connections {
              peers = changed_at n change s.connections.peers;
            };
          })
      changed h change = record {
        peers = changed_peers c n change s.connections.peers h.peers;
        work = h.work;
        posts = h.posts;
      }

  turned : (k : Call) → KeepsNew c (turn k s)
  unfolding turn
  turned (call.Slice unix_seconds) =
      either (KeepsNew c) s.is_shut _ _ (λ below. (new below, tt)) (ran s.board.run unix_seconds)
  turned (call.Join channel identity) =
      either (KeepsNew c) (has_no_place channel identity s.connections.peers) _ _ (refused fault.Full)
      (λ below. (let h = new (omega (arith, below)) in (
        record {
          peers =
              joined (λ (p : Peer). IsOther c p.number) s.connections.peers
              (new_peer (s.connections.joined + 1) channel identity ∷ []) h.peers
              (ne_eqb (s.connections.joined + 1) c (λ e. omega (arith, below, e)), tt);
          work = h.work;
          posts = h.posts;
        },
        tt,
      )))
  turned (call.Leave n) =
      by_peers (KeepsNew c) (peer_at n s.connections.peers) s _ (refused fault.NoConnection) (λ p below.
      (let h = new below in (
        record {
          peers = some_peers c (λ p. not (is_number n p)) s.connections.peers h.peers;
          work = h.work;
          posts = h.posts;
        },
        tt,
      )))
  turned (call.Subscribe n x) = subscribed n x
  turned (call.Arrive n x) =
      by_incoming (λ o t. (s.connections.joined < c → OtherIncoming c o) → KeepsNew c t)
      (peer_at n s.connections.peers) n x.request x.unix_seconds s (λ other. refused fault.NoConnection)
      (λ i other. formed i _ other (request_form i x.unix_seconds s))
      (λ below. incoming_number c (peer_at n s.connections.peers) n x.request
      (λ p is. number_at c n s.connections.peers p (new below).peers is))
  turned (call.Fetch n from) =
      by_peers (KeepsNew c) (peer_at n s.connections.peers) s _ (refused fault.NoConnection) (λ p.
      either (KeepsNew c) (nat_lt from (first_kept (length s.posts))) _ _
      (refused (fault.Lagged (first_kept (length s.posts))))
      (λ below. (new below, tt)))

-- ---- calls

posted : (c last unix_seconds : ℕ) (letters : List Letter) → NoneTo c letters
    → AllByRecursion (λ (p : Post). NotTo c p.letter) (as_posts last unix_seconds letters)
posted c last unix_seconds [] none = tt
posted c last unix_seconds (l ∷ letters) none =
    (none.0, posted c (last + 1) unix_seconds letters none.1)

new_after : (c : ℕ) (calls : List Call) (s : KernelState) → (s.connections.joined < c → IsNew c s)
    → (fold next s calls).connections.joined < c → IsNew c (fold next s calls)
new_after c [] s new = new
new_after c (k ∷ calls) s new =
    let t = turn k s in
    new_after c calls (next s k) (λ below. (let h = turned c s new k below in record {
      peers = h.0.peers;
      work = h.0.work;
      posts =
          joined (λ (p : Post). NotTo c p.letter) t.state.posts _ h.0.posts
          (posted c (length t.state.posts) t.unix_seconds t.letters h.1);
    }))

none_to : (c : ℕ) (posts : List Post) → AllByRecursion (λ (p : Post). NotTo c p.letter) posts
    → filter (is_to c) posts ≡ []
none_to c [] h = refl
none_to c (p ∷ posts) h =
    ap (λ b. cond b (p ∷ filter (is_to c) posts) (filter (is_to c) posts))
    (not_among p.letter.envelope.to h.0) ∙ none_to c posts h.1
  where
    not_among : (to : List ℕ) → AllByRecursion (IsOther c) to → list_any (λ n. n == c) to ≡ false
    not_among [] other = refl
    not_among (n ∷ to) other =
        ap (λ b. b || list_any (λ n. n == c) to) other.0 ∙ not_among to other.1

-- posts only come behind those that there are
pub more_posts : (calls later : List Call)
    → (more : List Post) × ((state_after (calls ++ later)).posts ≡ (state_after calls).posts ++ more)
more_posts calls later =
    let rest = behind later (state_after calls) in
    (rest.0, ap (λ (s : KernelState). s.posts) (fold-append next kernel_before_calls calls later) ∙ rest.1)
  where
    behind : (later : List Call) (s : KernelState)
        → (more : List Post) × ((fold next s later).posts ≡ s.posts ++ more)
    behind [] s = ([], sym (append-nil s.posts))
    behind (k ∷ later) s =
        let t = turn k s in
        let here = as_posts (length t.state.posts) t.unix_seconds t.letters in
        let rest = behind later (next s k) in (
          here ++ rest.0,
          rest.1 ∙ (ap (λ (posts : List Post). (posts ++ here) ++ rest.0) (kept_posts k s)
              ∙ append_assoc s.posts here rest.0),
        )

-- what a Join is answered
joined_as : (s : KernelState) (b : Bool) (connection from : ℕ) (after : KernelState)
    → (if b then refuse_turn Full s else
    turn_without_posts (Joined (s.connections.joined + 1) (length s.posts + 1)) after).answer
    ≡ Ok (Joined connection from)
    → (connection ≡ s.connections.joined + 1) × (from ≡ length s.posts + 1)
joined_as s true connection from after is = absurd (refusal is)
  where
    refusal : Err Full ≡ Ok (Joined connection from) → ⊥
    refusal e = cc
joined_as s false connection from after is = (cc, cc)

-- it names the number of the next post
pub next_number : (calls : List Call) (channel : Channel) (identity : Bytes) (connection from : ℕ)
    → answer_after calls (call.Join channel identity) ≡ Ok (Joined connection from)
    → from ≡ length (state_after calls).posts + 1
unfolding turn
next_number calls channel identity connection from is =
    let s = state_after calls in
    (joined_as s (has_no_place channel identity s.connections.peers) connection from _ is).1

pub new_connections : (calls later : List Call) (channel : Channel) (identity : Bytes) (connection from : ℕ)
    → answer_after calls (call.Join channel identity) ≡ Ok (Joined connection from)
    → posts_below connection from (state_after (calls ++ later)).posts ≡ []
unfolding turn posts_below
new_connections calls later channel identity connection from is =
    let s = state_after calls in
    let answer = joined_as s (has_no_place channel identity s.connections.peers) connection from _ is in
    let new = new_after connection calls kernel_before_calls
    (λ below. record { peers = tt; work = (tt, tt); posts = tt }) (omega (arith, answer.0)) in
    let more = more_posts calls later in
    let number : from - 1 ≡ length s.posts = omega (arith, answer.1) in
    ap (λ posts. filter (is_to connection) (take (from - 1) posts)) more.1
    ∙ (ap (λ n. filter (is_to connection) (take n (s.posts ++ more.0))) number
    ∙ (ap (filter (is_to connection)) (take-append_seam s.posts more.0)
    ∙ none_to connection s.posts new.posts))
