-- What calls leave alone that give the worker nothing to do.
use Rattle.std.proofs.Common.{◌≡◌, inl, inr, ℕ, Bool, true, false, List, [], ◌∷◌, ◌++◌, Option, Some, None}
use Rattle.std.proofs.Common.{sym, ap, subst, Result, Ok, Err, refl, not, codes, All}
use Rattle.std.specs.Prelude.{◌==◌, option_to_list, if◌then◌else◌}
use Rattle.std.specs.List.{starts_with}
use Rattle.std.proofs.lemmas.List.Elements.{All-nil, All-cons, All-append}
use Rattle.jup_wire.specs.declared.channel.Channel.TheVariants.{Iopub}
use Rattle.lab_views.specs.declared.fault.ViewFault.{ViewFault}
use Rattle.lab_shown.specs.declared.shown.Shown.{Shown}
use Rattle.lab_views.specs.declared.view.View.TheVariants as view
use Rattle.lab_views.specs.Views.{view_of}
use Rattle.lab_core.specs.declared.fault.EventFault.{EventFault}
use Rattle.lab_core.specs.Board.{Board}
use Rattle.lab_core.specs.Events.{as_answer, parts_of}
use Rattle.dap_talk.specs.declared.command.DapCommand.{DapCommand}
use Rattle.dap_talk.specs.declared.command.DapCommand.TheVariants as command
use Rattle.dap_talk.specs.declared.command.DapRequest.{DapRequest}
use Rattle.dap_answers.specs.declared.answer.Body.{Body}
use Rattle.dap_answers.specs.declared.answer.Body.TheVariants as answer_body
use Rattle.dap_answers.specs.declared.answer.Outcome.TheVariants.{Success, Refused}
use Rattle.dap_answers.specs.declared.answer.Event.{Event}
use Rattle.dap_board.specs.Bodies.{body_of}
use Rattle.dap_board.specs.Commands.{Performed, command_result, with_body, first_line}
use Rattle.dap_board.specs.Names.{event_after, refusal_name}
use Rattle.kern_request.specs.declared.request.RequestBody.{RequestBody}
use Rattle.kern_request.specs.declared.request.RequestBody.TheVariants as ask
use Rattle.kern_request.specs.declared.request.NeedyRequest.{NeedyRequest}
use Rattle.kern_request.specs.declared.request.NeedyRequest.TheVariants as needy
use Rattle.kern_request.specs.declared.request.Request.{Request}
use Rattle.kern_peers.specs.declared.peer.Peer.{Peer}
use Rattle.kern_peers.specs.Connections.{is_on, is_full, peer_at}
use Rattle.kern_post.specs.Topics.{topic_of}
use Rattle.kern_post.specs.declared.content.Content.{Content}
use Rattle.kern_post.specs.declared.content.Content.TheVariants as content
use Rattle.kern_post.specs.declared.content.ExecutionState.TheVariants.{Busy, Idle}
use Rattle.kern_post.specs.declared.post.Letter.{Letter}
use Rattle.kern_exec.specs.Letters.{between_busy_and_idle, publication}
use Rattle.kern_calls.specs.declared.call.Call.{Call}
use Rattle.kern_calls.specs.declared.call.Call.TheVariants as call
use Rattle.kern_calls.specs.declared.call.Reply.TheVariants.{Arrived}
use Rattle.kern_calls.specs.declared.fault.KernelFault.{KernelFault}
use Rattle.kern_calls.specs.declared.fault.KernelFault.TheVariants.{Full, NoConnection}
use Rattle.kern_core.specs.States.{KernelState, Turn, refuse_turn, posting}
use Rattle.kern_core.specs.Connections.{by_peer, unsubscribe_turn, new_subscription, first_status, status_to}
use Rattle.kern_core.specs.Connections.{subscribing}
use Rattle.kern_core.specs.Requests.{plain_reply, reply_to, refusing, answering, performing, debugging}
use Rattle.kern_core.specs.Requests.{debug_reply, is_bounded, is_reset, after_letter, cut_letters, closing}
use Rattle.kern_core.specs.Requests.{ended_by, work_by, cut_work, performed_letters, response_to}
use Rattle.kern_post.specs.declared.content.Cause.TheVariants as cause
use Rattle.kern_core.specs.Requests.{passing, ignore_request, other, by_reply, arriving}
use Rattle.kern_core.specs.Turns.{turn}
use Rattle.kern_net.specs.Wakes.{steers, spared_by, concerns_worker, GoesTo, LeavesWork, GivesNone}
use Rattle.kern_net.proofs.ChoiceLemmas.{either}

-- ---- letters

-- letters that go to the connection, or to iopub
abbrev Go : ℕ → KernelState → List Letter → Type 0
Go n s letters = All (GoesTo n s.connections) letters

none_go : (n : ℕ) (s : KernelState) → Go n s []
none_go n s = All-nil (GoesTo n s.connections)

more_go : (n : ℕ) (s : KernelState) (l : Letter) (ls : List Letter) → GoesTo n s.connections l → Go n s ls
    → Go n s (l ∷ ls)
more_go n s l ls one all = All-cons (GoesTo n s.connections) l ls one all

published_goes : (n : ℕ) (s : KernelState) (header : List ℕ) (c : Content)
    → GoesTo n s.connections (publication s.connections header c)
published_goes n s header c = inr (topic_of c, refl)

-- between busy and idle
enclosed_go : (n : ℕ) (s : KernelState) (header : List ℕ) (letters : List Letter) → Go n s letters
    → Go n s (between_busy_and_idle s.connections header letters)
enclosed_go n s header letters all =
    let busy = publication s.connections header (content.Status Busy) in
    let idle = publication s.connections header (content.Status Idle) in
    more_go n s busy (letters ++ idle ∷ []) (published_goes n s header (content.Status Busy))
    (All-append (GoesTo n s.connections) letters (idle ∷ []) all
    (more_go n s idle [] (published_goes n s header (content.Status Idle)) (none_go n s)))

-- one to the connection
reply_goes : (n : ℕ) (s : KernelState) (r : Request) (c : Content) → Go n s (reply_to n r c ∷ [])
reply_goes n s r c = more_go n s (reply_to n r c) [] (inl refl) (none_go n s)

-- ---- turns

module _ (n : ℕ) (s : KernelState) where
  refused_leaves : (fault : KernelFault) → LeavesWork n s (refuse_turn fault s)
  refused_leaves fault = record { board = refl; work = refl; is_shut = refl; letters = none_go n s }

  -- what posts and changes nothing
  posting_leaves : (unix_seconds : ℕ) (letters : List Letter) → Go n s letters
      → LeavesWork n s (posting Arrived unix_seconds letters s)
  posting_leaves unix_seconds letters all =
      record { board = refl; work = refl; is_shut = refl; letters = all }

  around : (r : Request) (unix_seconds : ℕ) (letters : List Letter) → Go n s letters
      → LeavesWork n s (posting Arrived unix_seconds (between_busy_and_idle s.connections r.header letters) s)
  around r unix_seconds letters all =
      posting_leaves unix_seconds (between_busy_and_idle s.connections r.header letters)
      (enclosed_go n s r.header letters all)

  at_peer : (p : Option Peer) (f : Peer → Turn) → ((q : Peer) → LeavesWork n s (f q))
      → LeavesWork n s (by_peer p s f)
  at_peer None f k = refused_leaves NoConnection
  at_peer (Some p) f k = k p

-- ---- subscriptions

first_goes : (n : ℕ) (prefix : List ℕ) (s : KernelState) → Go n s (first_status n prefix s)
first_goes n prefix s =
    either (Go n s) (starts_with (λ x y. x == y) (codes "status") prefix) (status_to n s ∷ []) []
    (more_go n s (status_to n s) [] (inl refl) (none_go n s)) (none_go n s)

unsubscribed_leaves : (n : ℕ) (prefix : List ℕ) (s : KernelState)
    → LeavesWork n s (unsubscribe_turn n prefix s)
unsubscribed_leaves n prefix s = record { board = refl; work = refl; is_shut = refl; letters = none_go n s }

new_leaves : (n : ℕ) (prefix : List ℕ) (unix_seconds : ℕ) (s : KernelState)
    → LeavesWork n s (new_subscription n prefix unix_seconds s)
new_leaves n prefix unix_seconds s =
    record { board = refl; work = refl; is_shut = refl; letters = first_goes n prefix s }

subscribing_leaves : (n : ℕ) (wants : Bool) (prefix : List ℕ) (unix_seconds : ℕ) (s : KernelState)
    → LeavesWork n s (subscribing n wants prefix unix_seconds s)
subscribing_leaves n wants prefix unix_seconds s = at_peer n s (peer_at n s.connections.peers) _ (λ p.
    either (LeavesWork n s) (not (is_on Iopub p)) (refuse_turn NoConnection s) _
    (refused_leaves n s NoConnection)
    (either (LeavesWork n s) (not wants) (unsubscribe_turn n prefix s) _ (unsubscribed_leaves n prefix s)
    (either (LeavesWork n s) (is_full p) (refuse_turn Full s) (new_subscription n prefix unix_seconds s)
    (refused_leaves n s Full) (new_leaves n prefix unix_seconds s))))

-- ---- debug requests

abbrev as_performed : Body × Board → Performed
as_performed p = Ok p

same_board : (p q : Body × Board) → as_performed p ≡ as_performed q → q.1 ≡ p.1
same_board p q is = let same : p ≡ q = cc in sym (ap (λ (x : Body × Board). x.1) same)

shown_keeps : (given : Result Shown ViewFault) (b : Board) (body : Body) (new : Board)
    → with_body body_of (as_answer given b) ≡ Ok (body, new) → new ≡ b
shown_keeps (Ok s) b body new is = same_board _ (body, new) is
shown_keeps (Err fault) b body new is = absurd cc

looks_keep : (c : DapCommand) (b : Board) (body : Body) (new : Board) → steers c ≡ false
    → command_result c b ≡ Ok (body, new) → new ≡ b
unfolding command_result
looks_keep command.Initialize b body new look is = same_board (answer_body.Capabilities, b) (body, new) is
looks_keep command.ConfigurationDone b body new look is = same_board (answer_body.Empty, b) (body, new) is
looks_keep command.Threads b body new look is = same_board (answer_body.Threads, b) (body, new) is
looks_keep (command.StackTrace start levels) b body new look is = shown_keeps _ b body new is
looks_keep (command.Scopes frame) b body new look is = shown_keeps _ b body new is
looks_keep (command.Variables reference start count) b body new look is = shown_keeps _ b body new is
looks_keep (command.Disassemble address offset instruction_offset count) b body new look is =
    shown_keeps (view_of (view.Code (first_line b.machine address offset instruction_offset) count)
    (parts_of b))
    b body new is
looks_keep (command.Source path) b body new look is = shown_keeps _ b body new is
looks_keep command.DebugInfo b body new look is = shown_keeps (view_of view.Info (parts_of b)) b body new is
looks_keep command.InspectVariables b body new look is =
    shown_keeps (view_of (view.Variables 1 0 0) (parts_of b)) b body new is
looks_keep _ b body new look is = absurd cc

no_reset : (c : DapCommand) → steers c ≡ false → is_reset c ≡ false
no_reset command.BoardReset look = absurd cc
no_reset _ look = refl

after_goes : (n : ℕ) (s : KernelState) (r : Request) (event : Option Event)
    → Go n s (option_to_list (after_letter event r s))
after_goes n s r None = none_go n s
after_goes n s r (Some e) =
    more_go n s (publication s.connections r.header (content.DebugEvent e)) []
    (published_goes n s r.header (content.DebugEvent e)) (none_go n s)

refusing_leaves : (n : ℕ) (r : Request) (d : DapRequest) (message : List ℕ) (unix_seconds : ℕ)
    (s : KernelState)
    → LeavesWork n s (refusing n r d message unix_seconds s)
refusing_leaves n r d message unix_seconds s =
    let content = content.DebugReply (response_to d (Refused message)) in
    around n s r unix_seconds (reply_to n r content ∷ []) (reply_goes n s r content)

ended_none : (c : DapCommand) (s : KernelState) → steers c ≡ false → ended_by c s ≡ []
ended_none c s look = ap (λ b. if b then cut_letters cause.Reset s else []) (no_reset c look)

work_same : (c : DapCommand) (s : KernelState) → steers c ≡ false → work_by c s ≡ s.work
work_same c s look = ap (λ b. if b then cut_work s else s.work) (no_reset c look)

performed_go : (n : ℕ) (r : Request) (d : DapRequest) (s : KernelState) (body : Body)
    → steers d.command ≡ false
    → Go n s (ended_by d.command s
    ++ performed_letters (Ok body) (after_letter (event_after d.command) r s) n r d)
performed_go n r d s body look =
    let after = option_to_list (after_letter (event_after d.command) r s) in
    let reply = debug_reply n r d (Success body) in
    All-append (GoesTo n s.connections) (ended_by d.command s) (reply ∷ after)
    (subst (Go n s) (sym (ended_none d.command s look)) (none_go n s))
    (more_go n s reply after (inl refl) (after_goes n s r (event_after d.command)))

answering_leaves : (n : ℕ) (r : Request) (d : DapRequest) (unix_seconds : ℕ) (s : KernelState)
    (result : Result (Body × Board) EventFault) → steers d.command ≡ false
    → command_result d.command s.board ≡ result
    → LeavesWork n s (answering n r d unix_seconds s result)
answering_leaves n r d unix_seconds s (Ok (body, b)) look is = record {
  board = looks_keep d.command s.board body b look is;
  work = work_same d.command s look;
  is_shut = refl;
  letters = enclosed_go n s r.header _ (performed_go n r d s body look);
}
answering_leaves n r d unix_seconds s (Err fault) look is =
    refusing_leaves n r d (refusal_name fault) unix_seconds s

debugging_leaves : (n : ℕ) (r : Request) (d : DapRequest) (unix_seconds : ℕ) (s : KernelState)
    → steers d.command ≡ false → LeavesWork n s (debugging n r d unix_seconds s)
debugging_leaves n r d unix_seconds s look =
    either (LeavesWork n s) (is_bounded d.command) (performing n r d unix_seconds s)
    (refusing n r d (codes "Arguments") unix_seconds s)
    (answering_leaves n r d unix_seconds s (command_result d.command s.board) look refl)
    (refusing_leaves n r d (codes "Arguments") unix_seconds s)

-- ---- the other requests

passing_leaves : (n : ℕ) (r : Request) (unix_seconds : ℕ) (s : KernelState)
    → LeavesWork n s (passing r unix_seconds s)
passing_leaves n r unix_seconds s = around n s r unix_seconds [] (none_go n s)

closing_leaves : (n : ℕ) (r : Request) (comm_id : List ℕ) (unix_seconds : ℕ) (s : KernelState)
    → LeavesWork n s (closing r comm_id unix_seconds s)
closing_leaves n r comm_id unix_seconds s =
    let letter = publication s.connections r.header (content.CommClose comm_id) in
    around n s r unix_seconds (letter ∷ [])
    (more_go n s letter [] (published_goes n s r.header (content.CommClose comm_id)) (none_go n s))

unanswered_leaves : (n : ℕ) (r : Request) (lacking : NeedyRequest) (unix_seconds : ℕ) (s : KernelState)
    → LeavesWork n s (ignore_request r lacking unix_seconds s)
unanswered_leaves n r needy.InputReply unix_seconds s =
    record { board = refl; work = refl; is_shut = refl; letters = none_go n s }
unanswered_leaves n r _ unix_seconds s = passing_leaves n r unix_seconds s

is_false : (b : Bool) → not b ≡ true → b ≡ false
is_false true h = absurd cc
is_false false h = refl

is_true : (b : Bool) → not b ≡ false → b ≡ true
is_true true h = refl
is_true false h = absurd cc

other_leaves : (n : ℕ) (identity : List ℕ) (r : Request) (a : RequestBody) (unix_seconds : ℕ)
    (s : KernelState)
    → spared_by a ≡ true → LeavesWork n s (other n identity r a unix_seconds s)
other_leaves n identity r (ask.Execute x) unix_seconds s none = absurd cc
other_leaves n identity r (ask.CommOpen comm_id) unix_seconds s none =
    closing_leaves n r comm_id unix_seconds s
other_leaves n identity r (ask.Shutdown restarts) unix_seconds s none = absurd cc
other_leaves n identity r ask.Interrupt unix_seconds s none = absurd cc
other_leaves n identity r (ask.Debug d) unix_seconds s none =
    debugging_leaves n r d unix_seconds s (is_false (steers d.command) none)
other_leaves n identity r (ask.InputReply typed) unix_seconds s none = absurd cc
other_leaves n identity r (ask.BadContent lacking) unix_seconds s none =
    unanswered_leaves n r lacking unix_seconds s
other_leaves n identity r _ unix_seconds s none = passing_leaves n r unix_seconds s

by_reply_leaves : (c : Option Content) (n : ℕ) (identity : List ℕ) (r : Request) (unix_seconds : ℕ)
    (s : KernelState)
    → spared_by r.body ≡ true → LeavesWork n s (by_reply c n identity r unix_seconds s)
by_reply_leaves (Some c) n identity r unix_seconds s none =
    around n s r unix_seconds (reply_to n r c ∷ []) (reply_goes n s r c)
by_reply_leaves None n identity r unix_seconds s none = other_leaves n identity r r.body unix_seconds s none

arriving_leaves : (n : ℕ) (r : Request) (unix_seconds : ℕ) (s : KernelState) → spared_by r.body ≡ true
    → LeavesWork n s (arriving n r unix_seconds s)
arriving_leaves n r unix_seconds s none = at_peer n s (peer_at n s.connections.peers) _ (λ p.
    either (LeavesWork n s) (is_on Iopub p) (refuse_turn NoConnection s) _ (refused_leaves n s NoConnection)
    (by_reply_leaves (plain_reply s.work.count r.body) n p.identity r unix_seconds s none))

pub gives_none : (c : Call) → concerns_worker c ≡ false → (s : KernelState) → GivesNone c s
unfolding turn
gives_none (call.Subscribe n c) none s = subscribing_leaves n c.wants c.prefix c.unix_seconds s
gives_none (call.Arrive n c) none s =
    arriving_leaves n c.request c.unix_seconds s (is_true (spared_by c.request.body) none)
gives_none _ none s = absurd cc
