-- No call that reading makes is answered that posts are gone: only a Fetch is.
use Rattle.std.proofs.Common.{◌≡◌, ℕ, Bool, true, false, List, Option, Some, None, Result, Ok, Err, refl}
use Rattle.std.proofs.Common.{nat_lt, length, not}
use Rattle.jup_wire.specs.declared.channel.Channel.TheVariants.{Iopub}
use Rattle.dap_talk.specs.declared.command.DapRequest.{DapRequest}
use Rattle.dap_answers.specs.declared.answer.Body.{Body}
use Rattle.lab_core.specs.declared.fault.EventFault.{EventFault}
use Rattle.lab_core.specs.Board.{Board}
use Rattle.dap_board.specs.Commands.{command_result}
use Rattle.std.specs.Prelude.{codes}
use Rattle.kern_request.specs.declared.request.RequestBody.{RequestBody}
use Rattle.kern_request.specs.declared.request.RequestBody.TheVariants as ask
use Rattle.kern_request.specs.declared.request.ExecuteRequest.{ExecuteRequest}
use Rattle.kern_request.specs.declared.request.NeedyRequest.{NeedyRequest}
use Rattle.kern_request.specs.declared.request.NeedyRequest.TheVariants as needy
use Rattle.kern_request.specs.declared.request.Request.{Request}
use Rattle.kern_peers.specs.declared.peer.Peer.{Peer}
use Rattle.kern_peers.specs.Connections.{is_on, is_full, peer_at}
use Rattle.kern_post.specs.declared.content.Content.{Content}
use Rattle.kern_exec.specs.Executions.{execution_of, enqueue}
use Rattle.kern_calls.specs.declared.call.Call.{Call}
use Rattle.kern_calls.specs.declared.call.Call.TheVariants as call
use Rattle.kern_calls.specs.declared.call.Reply.{Reply}
use Rattle.kern_calls.specs.declared.call.Reply.TheVariants.{Arrived, Subscribed}
use Rattle.kern_calls.specs.declared.fault.KernelFault.TheVariants.{Full, Lagged, NoConnection}
use Rattle.kern_core.specs.States.{KernelState, Turn, refuse_turn, turn_without_posts}
use Rattle.kern_core.specs.Connections.{by_peer, unsubscribe_turn, new_subscription, subscribing}
use Rattle.kern_core.specs.Requests.{plain_reply, replying, queue_full, executing, interrupting, shutting}
use Rattle.kern_core.specs.Requests.{is_bounded, refusing, answering, performing, debugging, typing, closing}
use Rattle.kern_core.specs.Requests.{passing, ignore_request, other, by_reply, arriving}
use Rattle.kern_core.specs.Turns.{turn, state_after}
use Rattle.kern_desk.specs.Seats.{calls_of, seated_answer}
use Rattle.kern_net.specs.ReadEnds.{IsReaderCall}
use Rattle.kern_net.proofs.ChoiceLemmas.{either}

record KeepsUp (t : Turn) : Type 0 where
  never : (first : ℕ) → t.answer ≡ Err (Lagged first) → ⊥

answered : (t : Turn) (reply : Reply) → t.answer ≡ Ok reply → KeepsUp t
answered t reply is = record { never = λ first e. absurd cc }

full : (s : KernelState) → KeepsUp (refuse_turn Full s)
full s = record { never = λ first e. absurd cc }

unknown : (s : KernelState) → KeepsUp (refuse_turn NoConnection s)
unknown s = record { never = λ first e. absurd cc }

at_peer : (p : Option Peer) (s : KernelState) (f : Peer → Turn) → ((q : Peer) → KeepsUp (f q))
    → KeepsUp (by_peer p s f)
at_peer None s f k = unknown s
at_peer (Some p) s f k = k p

subscribing_keeps : (n : ℕ) (wants : Bool) (prefix : List ℕ) (unix_seconds : ℕ) (s : KernelState)
    → KeepsUp (subscribing n wants prefix unix_seconds s)
subscribing_keeps n wants prefix unix_seconds s = at_peer (peer_at n s.connections.peers) s _ (λ p.
    either KeepsUp (not (is_on Iopub p)) (refuse_turn NoConnection s) _ (unknown s)
    (either KeepsUp (not wants) (unsubscribe_turn n prefix s) _
    (answered (unsubscribe_turn n prefix s) Subscribed refl)
    (either KeepsUp (is_full p) (refuse_turn Full s) (new_subscription n prefix unix_seconds s) (full s)
    (answered (new_subscription n prefix unix_seconds s) Subscribed refl))))

executing_keeps : (n : ℕ) (identity : List ℕ) (r : Request) (x : ExecuteRequest) (unix_seconds : ℕ)
    (s : KernelState)
    → KeepsUp (executing n identity r x unix_seconds s)
executing_keeps n identity r x unix_seconds s =
    let more = turn_without_posts Arrived
    (record s { work = enqueue (execution_of n identity r x) s.work }) in
    either KeepsUp (nat_lt (length s.work.queue) 64) more (queue_full n r x unix_seconds s)
    (answered more Arrived refl)
    (answered (queue_full n r x unix_seconds s) Arrived refl)

shutting_keeps : (n : ℕ) (r : Request) (restarts : Bool) (unix_seconds : ℕ) (s : KernelState)
    → KeepsUp (shutting n r restarts unix_seconds s)
shutting_keeps n r false unix_seconds s = answered (shutting n r false unix_seconds s) Arrived refl
shutting_keeps n r true unix_seconds s = answered (shutting n r true unix_seconds s) Arrived refl

answering_keeps : (n : ℕ) (r : Request) (d : DapRequest) (unix_seconds : ℕ) (s : KernelState)
    (result : Result (Body × Board) EventFault) → KeepsUp (answering n r d unix_seconds s result)
answering_keeps n r d unix_seconds s (Ok (body, b)) =
    answered (answering n r d unix_seconds s (Ok (body, b))) Arrived refl
answering_keeps n r d unix_seconds s (Err fault) =
    answered (answering n r d unix_seconds s (Err fault)) Arrived refl

debugging_keeps : (n : ℕ) (r : Request) (d : DapRequest) (unix_seconds : ℕ) (s : KernelState)
    → KeepsUp (debugging n r d unix_seconds s)
debugging_keeps n r d unix_seconds s =
    let bad = refusing n r d (codes "Arguments") unix_seconds s in
    either KeepsUp (is_bounded d.command) (performing n r d unix_seconds s) bad
    (answering_keeps n r d unix_seconds s (command_result d.command s.board)) (answered bad Arrived refl)

unanswered_keeps : (r : Request) (lacking : NeedyRequest) (unix_seconds : ℕ) (s : KernelState)
    → KeepsUp (ignore_request r lacking unix_seconds s)
unanswered_keeps r needy.InputReply unix_seconds s = answered (turn_without_posts Arrived s) Arrived refl
unanswered_keeps r _ unix_seconds s = answered (passing r unix_seconds s) Arrived refl

other_keeps : (n : ℕ) (identity : List ℕ) (r : Request) (a : RequestBody) (unix_seconds : ℕ) (s : KernelState)
    → KeepsUp (other n identity r a unix_seconds s)
other_keeps n identity r (ask.Execute x) unix_seconds s = executing_keeps n identity r x unix_seconds s
other_keeps n identity r (ask.CommOpen comm_id) unix_seconds s =
    answered (closing r comm_id unix_seconds s) Arrived refl
other_keeps n identity r (ask.Shutdown restarts) unix_seconds s = shutting_keeps n r restarts unix_seconds s
other_keeps n identity r ask.Interrupt unix_seconds s =
    answered (interrupting n r unix_seconds s) Arrived refl
other_keeps n identity r (ask.Debug d) unix_seconds s = debugging_keeps n r d unix_seconds s
other_keeps n identity r (ask.InputReply typed) unix_seconds s = answered (typing typed s) Arrived refl
other_keeps n identity r (ask.BadContent lacking) unix_seconds s = unanswered_keeps r lacking unix_seconds s
other_keeps n identity r _ unix_seconds s = answered (passing r unix_seconds s) Arrived refl

by_reply_keeps : (c : Option Content) (n : ℕ) (identity : List ℕ) (r : Request) (unix_seconds : ℕ)
    (s : KernelState)
    → KeepsUp (by_reply c n identity r unix_seconds s)
by_reply_keeps (Some c) n identity r unix_seconds s = answered (replying n r c unix_seconds s) Arrived refl
by_reply_keeps None n identity r unix_seconds s = other_keeps n identity r r.body unix_seconds s

arriving_keeps : (n : ℕ) (r : Request) (unix_seconds : ℕ) (s : KernelState)
    → KeepsUp (arriving n r unix_seconds s)
arriving_keeps n r unix_seconds s = at_peer (peer_at n s.connections.peers) s _ (λ p.
    either KeepsUp (is_on Iopub p) (refuse_turn NoConnection s) _ (unknown s)
    (by_reply_keeps (plain_reply s.work.count r.body) n p.identity r unix_seconds s))

turn_keeps : (c : Call) (s : KernelState) → IsReaderCall c → KeepsUp (turn c s)
unfolding turn
turn_keeps (call.Subscribe n c) s is = subscribing_keeps n c.wants c.prefix c.unix_seconds s
turn_keeps (call.Arrive n c) s is = arriving_keeps n c.request c.unix_seconds s
turn_keeps _ s is = absurd is

pub no_lag : (c : Call) (history : List (ℕ × Call)) (first : ℕ) → IsReaderCall c
    → seated_answer history c ≡ Err (Lagged first) → ⊥
no_lag c history first is e = (turn_keeps c (state_after (calls_of history)) is).never first e
