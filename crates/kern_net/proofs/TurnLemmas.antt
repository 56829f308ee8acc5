-- No call adds a post but by its letters.
use Rattle.std.proofs.Common.{◌≡◌, ℕ, ◌+◌, Bool, true, false, if◌then◌else◌, List, [], ◌∷◌, length, Option}
use Rattle.std.proofs.Common.{Some, None, Result, Ok, Err, refl}
use Rattle.std.specs.Prelude.{not, nat_lt, codes}
use Rattle.jup_wire.specs.declared.channel.Channel.{Channel}
use Rattle.jup_wire.specs.declared.channel.Channel.TheVariants.{Iopub}
use Rattle.lab_core.specs.declared.answer.SliceOutcome.{SliceOutcome}
use Rattle.lab_core.specs.declared.fault.EventFault.{EventFault}
use Rattle.lab_core.specs.declared.run_state.RunState.{RunState}
use Rattle.lab_core.specs.declared.run_state.RunState.TheVariants as run
use Rattle.lab_core.specs.Board.{Board}
use Rattle.dap_talk.specs.declared.command.DapRequest.{DapRequest}
use Rattle.dap_answers.specs.declared.answer.Body.{Body}
use Rattle.dap_board.specs.Commands.{command_result}
use Rattle.kern_request.specs.declared.request.RequestBody.{RequestBody}
use Rattle.kern_request.specs.declared.request.RequestBody.TheVariants as ask
use Rattle.kern_request.specs.declared.request.ExecuteRequest.{ExecuteRequest}
use Rattle.kern_request.specs.declared.request.NeedyRequest.{NeedyRequest}
use Rattle.kern_request.specs.declared.request.NeedyRequest.TheVariants as needy
use Rattle.kern_request.specs.declared.request.Request.{Request}
use Rattle.kern_peers.specs.declared.peer.Peer.{Peer}
use Rattle.kern_peers.specs.Connections.{has_no_place, joined_by, peer_at, without, is_on, is_full}
use Rattle.kern_post.specs.declared.content.Content.{Content}
use Rattle.kern_post.specs.Posts.{posts_between as posts_to, first_kept, next_from}
use Rattle.kern_exec.specs.declared.execution.Execution.{Execution}
use Rattle.kern_exec.specs.Executions.{execution_of, enqueue}
use Rattle.lab_core.specs.SliceEnds.{slice_end}
use Rattle.kern_calls.specs.declared.call.Call.{Call}
use Rattle.kern_calls.specs.declared.call.Call.TheVariants as call
use Rattle.kern_calls.specs.declared.call.Reply.TheVariants as reply
use Rattle.kern_calls.specs.declared.fault.KernelFault.TheVariants as fault
use Rattle.kern_core.specs.States.{KernelState, Turn, refuse_turn, turn_without_posts}
use Rattle.kern_core.specs.Connections.{by_peer, join_turn, unsubscribe_turn, new_subscription, fetching}
use Rattle.kern_core.specs.Requests.{plain_reply, by_reply, other, executing, queue_full, shutting, answering}
use Rattle.kern_core.specs.Requests.{performing, refusing, is_bounded, debugging, ignore_request}
use Rattle.kern_core.specs.Slices.{running_to, by_run, by_start, loading, slicing}
use Rattle.kern_core.specs.Turns.{turn}
use Rattle.kern_net.proofs.ChoiceLemmas.{either}

record Leaves (s : KernelState) (t : Turn) : Type 0 where
  same : t.state.posts ≡ s.posts

-- ---- requests

executes : (n : ℕ) (identity : List ℕ) (r : Request) (x : ExecuteRequest) (unix_seconds : ℕ) (s : KernelState)
    → Leaves s (executing n identity r x unix_seconds s)
executes n identity r x unix_seconds s =
    either (Leaves s) (nat_lt (length s.work.queue) 64) (turn_without_posts reply.Arrived
    (record s { work = enqueue (execution_of n identity r x) s.work }))
    (queue_full n r x unix_seconds s) (record { same = refl }) (record { same = refl })

shuts : (n : ℕ) (r : Request) (restarts : Bool) (unix_seconds : ℕ) (s : KernelState)
    → Leaves s (shutting n r restarts unix_seconds s)
shuts n r false unix_seconds s = record { same = refl }
shuts n r true unix_seconds s = record { same = refl }

answers : (n : ℕ) (r : Request) (d : DapRequest) (unix_seconds : ℕ) (s : KernelState)
    (given : Result (Body × Board) EventFault) → Leaves s (answering n r d unix_seconds s given)
answers n r d unix_seconds s (Ok (body, board)) = record { same = refl }
answers n r d unix_seconds s (Err fault) = record { same = refl }

debugs : (n : ℕ) (r : Request) (d : DapRequest) (unix_seconds : ℕ) (s : KernelState)
    → Leaves s (debugging n r d unix_seconds s)
debugs n r d unix_seconds s =
    either (Leaves s) (is_bounded d.command) (performing n r d unix_seconds s)
    (refusing n r d (codes "Arguments") unix_seconds s)
    (answers n r d unix_seconds s (command_result d.command s.board)) (record { same = refl })

passes_over : (r : Request) (lacking : NeedyRequest) (unix_seconds : ℕ) (s : KernelState)
    → Leaves s (ignore_request r lacking unix_seconds s)
passes_over r needy.InputReply unix_seconds s = record { same = refl }
passes_over r needy.Execute unix_seconds s = record { same = refl }
passes_over r needy.IsComplete unix_seconds s = record { same = refl }
passes_over r needy.Complete unix_seconds s = record { same = refl }
passes_over r needy.CommOpen unix_seconds s = record { same = refl }
passes_over r needy.Shutdown unix_seconds s = record { same = refl }

others : (n : ℕ) (identity : List ℕ) (r : Request) (a : RequestBody) (unix_seconds : ℕ) (s : KernelState)
    → Leaves s (other n identity r a unix_seconds s)
others n identity r (ask.Execute x) unix_seconds s = executes n identity r x unix_seconds s
others n identity r (ask.Shutdown restarts) unix_seconds s = shuts n r restarts unix_seconds s
others n identity r (ask.Debug d) unix_seconds s = debugs n r d unix_seconds s
others n identity r (ask.BadContent lacking) unix_seconds s = passes_over r lacking unix_seconds s
others n identity r _ unix_seconds s = record { same = refl }

replies : (plain : Option Content) (n : ℕ) (identity : List ℕ) (r : Request) (unix_seconds : ℕ)
    (s : KernelState)
    → Leaves s (by_reply plain n identity r unix_seconds s)
replies (Some c) n identity r unix_seconds s = record { same = refl }
replies None n identity r unix_seconds s = others n identity r r.body unix_seconds s

-- ---- slices

runs : (e : ℕ × SliceOutcome) (unix_seconds : ℕ) (s : KernelState) → Leaves s (running_to e unix_seconds s)
runs (k, ending) unix_seconds s = record { same = refl }

loads : (unix_seconds : ℕ) (queue : List Execution) (s : KernelState)
    → Leaves s (loading unix_seconds queue s)
loads unix_seconds [] s = record { same = refl }
loads unix_seconds (x ∷ rest) s = record { same = refl }

starts : (pending : Option ℕ) (unix_seconds : ℕ) (s : KernelState)
    → Leaves s (by_start pending unix_seconds s)
starts None unix_seconds s = loads unix_seconds s.work.queue s
starts (Some address) unix_seconds s = record { same = refl }

goes_on : (state : RunState) (unix_seconds : ℕ) (s : KernelState) → Leaves s (by_run state unix_seconds s)
goes_on run.Running unix_seconds s = runs (slice_end s.board) unix_seconds s
goes_on run.Stopped unix_seconds s = record { same = refl }
goes_on run.NoRun unix_seconds s = starts s.work.pending unix_seconds s

-- ---- calls

joins : (channel : Channel) (identity : List ℕ) (s : KernelState) → Leaves s (join_turn channel identity s)
joins channel identity s =
    either (Leaves s) (has_no_place channel identity s.connections.peers) (refuse_turn fault.Full s)
    (turn_without_posts (reply.Joined (s.connections.joined + 1) (length s.posts + 1))
    (record s { connections = joined_by channel identity s.connections }))
    (record { same = refl }) (record { same = refl })

leaves : (peer : Option Peer) (n : ℕ) (s : KernelState)
    → Leaves s (by_peer peer s (λ p. turn_without_posts reply.Left
    (record s { connections = without n s.connections })))
leaves None n s = record { same = refl }
leaves (Some p) n s = record { same = refl }

subscribes : (peer : Option Peer) (n : ℕ) (wants : Bool) (prefix : List ℕ) (unix_seconds : ℕ)
    (s : KernelState)
    → Leaves s (by_peer peer s (λ p.
    if not (is_on Iopub p) then refuse_turn fault.NoConnection s else
    if not wants then unsubscribe_turn n prefix s else
    if is_full p then refuse_turn fault.Full s else new_subscription n prefix unix_seconds s))
subscribes None n wants prefix unix_seconds s = record { same = refl }
subscribes (Some p) n wants prefix unix_seconds s =
    let last =
    either (Leaves s) (is_full p) (refuse_turn fault.Full s) (new_subscription n prefix unix_seconds s)
    (record { same = refl }) (record { same = refl }) in
    let first =
    either (Leaves s) (not wants) (unsubscribe_turn n prefix s)
    (if is_full p then refuse_turn fault.Full s else new_subscription n prefix unix_seconds s)
    (record { same = refl }) last in
    either (Leaves s) (not (is_on Iopub p)) (refuse_turn fault.NoConnection s)
    (if not wants then unsubscribe_turn n prefix s else (if is_full p then refuse_turn fault.Full s else
    new_subscription n prefix unix_seconds s))
    (record { same = refl }) first

arrives : (peer : Option Peer) (n : ℕ) (r : Request) (unix_seconds : ℕ) (s : KernelState)
    → Leaves s (by_peer peer s (λ p.
    if is_on Iopub p then refuse_turn fault.NoConnection s else by_reply (plain_reply s.work.count r.body) n
    p.identity r unix_seconds s))
arrives None n r unix_seconds s = record { same = refl }
arrives (Some p) n r unix_seconds s =
    either (Leaves s) (is_on Iopub p) (refuse_turn fault.NoConnection s)
    (by_reply (plain_reply s.work.count r.body) n p.identity r unix_seconds s)
    (record { same = refl }) (replies (plain_reply s.work.count r.body) n p.identity r unix_seconds s)

fetches : (peer : Option Peer) (n from : ℕ) (s : KernelState)
    → Leaves s (by_peer peer s (λ p. fetching n from s))
fetches None n from s = record { same = refl }
fetches (Some p) n from s =
    either (Leaves s) (nat_lt from (first_kept (length s.posts)))
    (refuse_turn (fault.Lagged (first_kept (length s.posts))) s)
    (turn_without_posts (reply.Fetched (posts_to n from s.posts)
    (next_from from (length s.posts)) s.is_shut) s)
    (record { same = refl }) (record { same = refl })

slices : (unix_seconds : ℕ) (s : KernelState) → Leaves s (slicing unix_seconds s)
slices unix_seconds s =
    either (Leaves s) s.is_shut (turn_without_posts reply.Ended s) (by_run s.board.run unix_seconds s)
    (record { same = refl })
    (goes_on s.board.run unix_seconds s)

turn_leaves : (c : Call) (s : KernelState) → Leaves s (turn c s)
unfolding turn
turn_leaves (call.Join channel identity) s = joins channel identity s
turn_leaves (call.Leave n) s = leaves (peer_at n s.connections.peers) n s
turn_leaves (call.Subscribe n c) s =
    subscribes (peer_at n s.connections.peers) n c.wants c.prefix c.unix_seconds s
turn_leaves (call.Arrive n c) s = arrives (peer_at n s.connections.peers) n c.request c.unix_seconds s
turn_leaves (call.Slice unix_seconds) s = slices unix_seconds s
turn_leaves (call.Fetch n from) s = fetches (peer_at n s.connections.peers) n from s

pub turn_leaves_posts : (c : Call) (s : KernelState) → (turn c s).state.posts ≡ s.posts
turn_leaves_posts c s = (turn_leaves c s).same
