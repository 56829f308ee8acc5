-- The cases of a turn.
use Rattle.std.proofs.Common.{◌≡◌, ℕ, Bool, true, false, not, Option, Some, None, length, refl, nat_lt}
use Rattle.std.proofs.Common.{if◌then◌else◌}
use Rattle.base_text.specs.Bytes.{Bytes}
use Rattle.jup_wire.specs.declared.channel.Channel.TheVariants.{Iopub}
use Rattle.kern_request.specs.declared.request.Request.{Request}
use Rattle.kern_post.specs.Posts.{first_kept}
use Rattle.kern_peers.specs.declared.peer.Peer.{Peer}
use Rattle.kern_peers.specs.Connections.{Connections, peer_at, is_on, is_full, has_no_place}
use Rattle.kern_calls.specs.declared.call.Call.{Call}
use Rattle.kern_calls.specs.declared.call.Call.TheVariants as call
use Rattle.kern_calls.specs.declared.call.Reply.{Reply}
use Rattle.kern_calls.specs.declared.fault.KernelFault.{KernelFault}
use Rattle.kern_calls.specs.declared.fault.KernelFault.TheVariants as fault
use Rattle.kern_core.specs.States.{KernelState, Turn, refuse_turn, turn_without_posts}
use Rattle.kern_core.specs.Connections.{by_peer, subscribing, unsubscribe_turn, new_subscription}
use Rattle.kern_core.specs.Requests.{plain_reply, by_reply}
use Rattle.kern_core.specs.Turns.{turn}
use Rattle.kern_laws.specs.Events.{Incoming, incoming_from, incoming}

pub either : {A : Type 0} (P : A → Type 0) (b : Bool) (x y : A) → P x → P y → P (if b then x else y)
either P true x y p q = p
either P false x y p q = q

pub either_by : {A : Type 0} (P : A → Type 0) (b : Bool) (x y : A) → (b ≡ true → P x) → (b ≡ false → P y)
    → P (if b then x else y)
either_by P true x y p q = p refl
either_by P false x y p q = q refl

pub by_peers : (P : Turn → Type 0) (o : Option Peer) (s : KernelState) (f : Peer → Turn)
    → P (refuse_turn fault.NoConnection s) → ((p : Peer) → P (f p)) → P (by_peer o s f)
by_peers P None s f none some = none
by_peers P (Some p) s f none some = some p

-- P of the turns of all calls but a Slice: those that are refused, those that change connections at most,
-- subscriptions and requests
pub record IsOfCalls (P : Option Incoming → Turn → Type 0) (s : KernelState) : Type 0 where
  pub refused : (fault : KernelFault) → P None (refuse_turn fault s)
  pub kept : (reply : Reply) (connections : Connections)
      → P None (turn_without_posts reply (record s { connections = connections }))
  pub subscribed : (n : ℕ) (prefix : Bytes) (unix_seconds : ℕ)
      → P None (new_subscription n prefix unix_seconds s)
  pub requested : (i : Incoming) (unix_seconds : ℕ)
      → P (Some i) (by_reply (plain_reply s.work.count i.request.body) i.connection i.identity i.request
      unix_seconds s)

by_channel : (P : Option Incoming → Turn → Type 0) (i : Incoming) (s : KernelState) (t : Turn) (b : Bool)
    → P None (refuse_turn fault.NoConnection s) → P (Some i) t
    → P (if b then None else Some i) (if b then refuse_turn fault.NoConnection s else t)
by_channel P i s t true none some = none
by_channel P i s t false none some = some

pub by_incoming : (P : Option Incoming → Turn → Type 0) (o : Option Peer) (n : ℕ) (r : Request)
    (unix_seconds : ℕ) (s : KernelState)
    → P None (refuse_turn fault.NoConnection s)
    → ((i : Incoming) → P (Some i) (by_reply (plain_reply s.work.count i.request.body) i.connection i.identity
    i.request unix_seconds s))
    → P (incoming_from o n r) (by_peer o s (λ p. if is_on Iopub p then refuse_turn fault.NoConnection s else
    by_reply (plain_reply s.work.count r.body) n p.identity r unix_seconds s))
by_incoming P None n r unix_seconds s refused requested = refused
by_incoming P (Some p) n r unix_seconds s refused requested =
    let i : Incoming = record { connection = n; identity = p.identity; request = r } in
    by_channel P i s _ (is_on Iopub p) refused (requested i)

pub by_subscribing : (P : Turn → Type 0) (n : ℕ) (wants : Bool) (prefix : Bytes) (unix_seconds : ℕ)
    (s : KernelState)
    → ((fault : KernelFault) → P (refuse_turn fault s)) → P (unsubscribe_turn n prefix s)
    → P (new_subscription n prefix unix_seconds s) → P (subscribing n wants prefix unix_seconds s)
by_subscribing P n wants prefix unix_seconds s refused unsubscribed subscribed =
    by_peers P (peer_at n s.connections.peers) s _ (refused fault.NoConnection) (λ p.
    either P (not (is_on Iopub p)) _ _ (refused fault.NoConnection)
    (either P (not wants) _ _ unsubscribed
    (either P (is_full p) _ _ (refused fault.Full) subscribed)))

abbrev pub IsNoSlice : Call → Type 0
IsNoSlice (call.Slice unix_seconds) = ⊥
IsNoSlice _ = Unit {0}

pub by_call : (P : Option Incoming → Turn → Type 0) (s : KernelState) (c : Call) → IsOfCalls P s
    → IsNoSlice c → P (incoming c s) (turn c s)
unfolding turn
by_call P s (call.Join channel identity) is other =
    either (P None) (has_no_place channel identity s.connections.peers) _ _ (is.refused fault.Full)
    (is.kept _ _)
by_call P s (call.Leave n) is other =
    by_peers (P None) (peer_at n s.connections.peers) s _ (is.refused fault.NoConnection) (λ p. is.kept _ _)
by_call P s (call.Subscribe n c) is other =
    by_subscribing (P None) n c.wants c.prefix c.unix_seconds s is.refused (is.kept _ _)
    (is.subscribed n c.prefix c.unix_seconds)
by_call P s (call.Arrive n c) is other =
    by_incoming P (peer_at n s.connections.peers) n c.request c.unix_seconds s (is.refused fault.NoConnection)
    (λ i. is.requested i c.unix_seconds)
by_call P s (call.Fetch n from) is other =
    by_peers (P None) (peer_at n s.connections.peers) s _ (is.refused fault.NoConnection) (λ p.
    either (P None) (nat_lt from (first_kept (length s.posts))) _ _ (is.refused _) (is.kept _ _))
by_call P s (call.Slice unix_seconds) is other = absurd other
