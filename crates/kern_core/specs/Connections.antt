-- Joining, leaving, subscribing and fetching.
use Rattle.std.specs.Prelude.{ℕ, ◌+◌, ◌==◌, nat_lt, List, [], ◌∷◌, length, Bool, true, false, ◌||◌, not}
use Rattle.std.specs.Prelude.{Option, Some, None, codes, if◌then◌else◌}
use Rattle.std.specs.List.{starts_with}
use Rattle.base_text.specs.Bytes.{Bytes}
use Rattle.jup_wire.specs.declared.channel.Channel.{Channel}
use Rattle.jup_wire.specs.declared.channel.Channel.TheVariants.{Iopub}
use Rattle.kern_post.specs.declared.content.Content.TheVariants.{Status}
use Rattle.kern_post.specs.declared.content.ExecutionState.{ExecutionState}
use Rattle.kern_post.specs.declared.content.ExecutionState.TheVariants.{Busy, Idle}
use Rattle.kern_post.specs.declared.post.Head.TheVariants.{Topic}
use Rattle.kern_post.specs.declared.post.Letter.{Letter}
use Rattle.kern_post.specs.Posts.{posts_between as posts_to, first_kept, next_from}
use Rattle.kern_peers.specs.declared.peer.Peer.{Peer}
use Rattle.kern_peers.specs.Connections.{has_no_place, joined_by, peer_at, without, is_on, is_full}
use Rattle.kern_peers.specs.Connections.{subscribed_by, without_subscription}
use Rattle.kern_exec.specs.declared.execution.Execution.{Execution}
use Rattle.kern_exec.specs.Boards.{is_run}
use Rattle.kern_calls.specs.declared.call.Reply.TheVariants as reply
use Rattle.kern_calls.specs.declared.fault.KernelFault.TheVariants.{Full, Lagged, NoConnection}
use Rattle.kern_core.specs.States.{KernelState, Turn, refuse_turn, turn_without_posts, posting}

-- ---- joining and leaving

abbrev pub join_turn : Channel → Bytes → KernelState → Turn
join_turn channel identity s =
    if has_no_place channel identity s.connections.peers then refuse_turn Full s else
    turn_without_posts (reply.Joined (s.connections.joined + 1) (length s.posts + 1))
    (record s { connections = joined_by channel identity s.connections })

abbrev pub by_peer : Option Peer → KernelState → (Peer → Turn) → Turn
by_peer None s f = refuse_turn NoConnection s
by_peer (Some p) s f = f p

abbrev pub with_peer : ℕ → KernelState → (Peer → Turn) → Turn
with_peer n s f = by_peer (peer_at n s.connections.peers) s f

abbrev pub leave_turn : ℕ → KernelState → Turn
leave_turn n s = with_peer n s (λ p. turn_without_posts reply.Left
    (record s { connections = without n s.connections }))

-- ---- subscribing

-- the kernel is busy if there is a run, a start is pending, or executions wait
abbrev pub is_some_start : Option ℕ → Bool
is_some_start None = false
is_some_start (Some address) = true

abbrev pub is_empty : List Execution → Bool
is_empty [] = true
is_empty (x ∷ rest) = false

abbrev pub is_busy : KernelState → Bool
is_busy s = is_run s.board.run || (is_some_start s.work.pending || not (is_empty s.work.queue))

abbrev pub state_of : KernelState → ExecutionState
state_of s = if is_busy s then Busy else Idle

-- a status letter to this connection alone
abbrev pub status_to : ℕ → KernelState → Letter
status_to n s = record {
  envelope = record { to = n ∷ []; head = Topic; parent = codes "{}" };
  content = Status (state_of s);
}

-- a connection that subscribes to statuses gets the current one
abbrev pub first_status : ℕ → Bytes → KernelState → List Letter
first_status n prefix s =
    if starts_with (λ x y. x == y) (codes "status") prefix then status_to n s ∷ [] else []

abbrev pub new_subscription : ℕ → Bytes → ℕ → KernelState → Turn
new_subscription n prefix unix_seconds s =
    posting reply.Subscribed unix_seconds (first_status n prefix s)
    (record s { connections = subscribed_by n prefix s.connections })

abbrev pub unsubscribe_turn : ℕ → Bytes → KernelState → Turn
unsubscribe_turn n prefix s = turn_without_posts reply.Subscribed
    (record s { connections = without_subscription n prefix s.connections })

abbrev pub subscribing : ℕ → Bool → Bytes → ℕ → KernelState → Turn
subscribing n wants prefix unix_seconds s = with_peer n s (λ p.
    if not (is_on Iopub p) then refuse_turn NoConnection s else
    if not wants then unsubscribe_turn n prefix s else
    if is_full p then refuse_turn Full s else new_subscription n prefix unix_seconds s)

-- ---- fetching

abbrev pub fetching : ℕ → ℕ → KernelState → Turn
fetching n from s =
    if nat_lt from (first_kept (length s.posts)) then refuse_turn
    (Lagged (first_kept (length s.posts))) s else
    turn_without_posts (reply.Fetched (posts_to n from s.posts) (next_from from (length s.posts)) s.is_shut) s

abbrev pub fetch_turn : ℕ → ℕ → KernelState → Turn
fetch_turn n from s = with_peer n s (λ p. fetching n from s)
