-- What the laws say of requests, of their replies and of posts, in the terms of "Messaging in Jupyter".
use Rattle.std.specs.Prelude.{◌≡◌, ℕ, ◌-◌, nat_lt, List, [], ◌∷◌, ◌++◌, length, map, take, Bool, true, false}
use Rattle.std.specs.Prelude.{Option, Some, None, Ok, option_to_list, codes, ◌⊎◌, if◌then◌else◌}
use Rattle.std.specs.List.{AllByRecursion, Any, filter, filter_map, count_by}
use Rattle.std.specs.Str.{bytes_eq}
use Rattle.base_text.specs.Bytes.{Bytes, Text, Frames}
use Rattle.jup_wire.specs.declared.channel.Channel.{Channel}
use Rattle.jup_wire.specs.declared.channel.Channel.TheVariants.{Iopub}
use Rattle.lab_core.specs.declared.run_state.RunState.TheVariants.{NoRun}
use Rattle.kern_request.specs.declared.request.RequestBody.{RequestBody}
use Rattle.kern_request.specs.declared.request.RequestBody.TheVariants as request
use Rattle.kern_request.specs.declared.request.NeedyRequest.{NeedyRequest}
use Rattle.kern_request.specs.declared.request.NeedyRequest.TheVariants as needy
use Rattle.kern_peers.specs.declared.peer.Peer.{Peer}
use Rattle.kern_peers.specs.Connections.{subscribers, stdin_of}
use Rattle.kern_post.specs.declared.content.Cause.{Cause}
use Rattle.kern_post.specs.declared.content.Cause.TheVariants as cause
use Rattle.kern_post.specs.declared.content.Content.{Content}
use Rattle.kern_post.specs.declared.content.Content.TheVariants as content
use Rattle.kern_post.specs.declared.content.Ending.{Ending}
use Rattle.kern_post.specs.declared.content.Ending.TheVariants.{Done, Failed}
use Rattle.kern_post.specs.declared.content.ExecutionState.TheVariants.{Busy, Idle}
use Rattle.kern_post.specs.declared.post.Envelope.{Envelope}
use Rattle.kern_post.specs.declared.post.Head.TheVariants.{Topic}
use Rattle.kern_post.specs.declared.post.Letter.{Letter}
use Rattle.kern_post.specs.declared.post.Post.{Post}
use Rattle.kern_post.specs.Posts.{is_to}
use Rattle.kern_post.specs.Topics.{topic_of}
use Rattle.kern_exec.specs.declared.execution.Execution.{Execution}
use Rattle.kern_exec.specs.declared.execution.Current.{Current}
use Rattle.kern_exec.specs.Executions.{Work, execution_of, count_with, current_of}
use Rattle.kern_exec.specs.Letters.{reply_envelope}
use Rattle.kern_calls.specs.declared.call.Call.{Call}
use Rattle.kern_calls.specs.declared.call.Call.TheVariants as call
use Rattle.kern_calls.specs.declared.call.Reply.TheVariants.{Ended, Joined}
use Rattle.kern_core.specs.States.{KernelState, kernel_before_calls}
use Rattle.kern_core.specs.Turns.{turn, next, state_after, answer_after}
use Rattle.kern_laws.specs.Events.{Incoming, incoming, call_events, along, letters_of}

-- ---- the end of the kernel

abbrev pub is_shutdown : RequestBody → Bool
is_shutdown (request.Shutdown restarts) = true
is_shutdown _ = false

abbrev pub asks_to_shut_down : Incoming → Bool
asks_to_shut_down i = is_shutdown i.request.body

-- the requests that a call delivers: one or none
abbrev pub call_requests : Call → KernelState → List Incoming
call_requests c s = option_to_list (incoming c s)

-- the requests that reached the kernel with these calls, in order
abbrev pub requests_of : List Call → List Incoming
requests_of calls = along call_requests calls kernel_before_calls

-- a Slice does nothing, to the board or otherwise
pub record IsShut (s : KernelState) : Type 0 where
  pub events : (unix_seconds : ℕ) → call_events (call.Slice unix_seconds) s ≡ []
  pub answer : (unix_seconds : ℕ) → (turn (call.Slice unix_seconds) s).answer ≡ Ok Ended
  pub state : (unix_seconds : ℕ) → next s (call.Slice unix_seconds) ≡ s

-- ---- replies that are sent at once

-- the type of a reply, and its envelope
abbrev pub TypedEnvelope : Type 0
TypedEnvelope = Text × Envelope

-- an execute_request is refused if 64 executions wait, or its content is bad
abbrev pub refuses_cause : Cause → Bool
refuses_cause cause.QueueFull = true
refuses_cause cause.BadContent = true
refuses_cause _ = false

abbrev pub refuses : Ending → Bool
refuses Done = false
refuses (Failed c) = refuses_cause c

-- the type of a message if it is a reply, but not that of an execution
abbrev pub type_at_once : Content → Option Text
type_at_once (content.Status state) = None
type_at_once (content.ExecuteInput code count) = None
type_at_once (content.Stream bytes) = None
type_at_once content.InputRequest = None
type_at_once (content.Error c) = None
type_at_once (content.CommClose comm_id) = None
type_at_once (content.DebugEvent event) = None
type_at_once (content.ExecuteReply count ending) =
    if refuses ending then Some (codes "execute_reply") else None
type_at_once c = Some (topic_of c)

abbrev pub typed_by : Option Text → Envelope → Option TypedEnvelope
typed_by None e = None
typed_by (Some type) e = Some (type, e)

abbrev pub reply_at_once : Letter → Option TypedEnvelope
reply_at_once l = typed_by (type_at_once l.content) l.envelope

-- the type of the reply to a request with a bad content
abbrev pub bad_reply_type : NeedyRequest → Option Text
bad_reply_type needy.Execute = Some (codes "execute_reply")
bad_reply_type needy.IsComplete = Some (codes "is_complete_reply")
bad_reply_type needy.Complete = Some (codes "complete_reply")
bad_reply_type needy.Shutdown = Some (codes "shutdown_reply")
bad_reply_type needy.CommOpen = None
bad_reply_type needy.InputReply = None

-- the type of the reply that a request gets at once, if so many executions wait
abbrev pub reply_type : ℕ → RequestBody → Option Text
reply_type waiting request.KernelInfo = Some (codes "kernel_info_reply")
reply_type waiting (request.Execute x) = if nat_lt waiting 64 then None else Some (codes "execute_reply")
reply_type waiting (request.IsComplete code) = Some (codes "is_complete_reply")
reply_type waiting (request.Complete cursor_pos) = Some (codes "complete_reply")
reply_type waiting request.Inspect = Some (codes "inspect_reply")
reply_type waiting request.History = Some (codes "history_reply")
reply_type waiting request.CommInfo = Some (codes "comm_info_reply")
reply_type waiting (request.Shutdown restarts) = Some (codes "shutdown_reply")
reply_type waiting request.Interrupt = Some (codes "interrupt_reply")
reply_type waiting (request.Debug d) = Some (codes "debug_reply")
reply_type waiting (request.BadDebug response) = Some (codes "debug_reply")
reply_type waiting (request.BadContent lacking) = bad_reply_type lacking
reply_type waiting (request.CommOpen comm_id) = None
reply_type waiting (request.InputReply typed) = None
reply_type waiting request.Unknown = None

-- a reply goes to the connection of its request alone, with the request's identities, and its parent is the
-- request's header
abbrev pub envelope_for : Incoming → Envelope
envelope_for i = reply_envelope i.connection i.request.identities i.request.header

abbrev pub due_to_request : Option Incoming → ℕ → Option TypedEnvelope
due_to_request None waiting = None
due_to_request (Some i) waiting = typed_by (reply_type waiting i.request.body) (envelope_for i)

-- the reply that a call has to send at once
abbrev pub due_at_once : Call → KernelState → List TypedEnvelope
due_at_once c s = option_to_list (due_to_request (incoming c s) (length s.work.queue))

-- ---- executions

-- an execute_request that isn't refused is an execution
abbrev pub body_execution : ℕ → Incoming → RequestBody → List Execution
body_execution waiting i (request.Execute x) =
    if nat_lt waiting 64 then execution_of i.connection i.identity i.request x ∷ [] else []
body_execution waiting i _ = []

abbrev pub incoming_execution : ℕ → Option Incoming → List Execution
incoming_execution waiting None = []
incoming_execution waiting (Some i) = body_execution waiting i i.request.body

abbrev pub call_execution : Call → KernelState → List Execution
call_execution c s = incoming_execution (length s.work.queue) (incoming c s)

-- each execution with its execution count, which rises by one with each that isn't silent and stores history
abbrev pub with_counts : ℕ → List Execution → List Current
with_counts n [] = []
with_counts n (x ∷ xs) = current_of x n ∷ with_counts (count_with x n) xs

-- the executions that these calls requested, in order
abbrev pub executions_of : List Call → List Current
executions_of calls = with_counts 0 (along call_execution calls kernel_before_calls)

-- those that wait in the queue
abbrev pub waiting : Work → List Current
waiting w = with_counts w.count w.queue

-- those that haven't ended: the one that was taken from the queue last, if it hasn't, and those that wait
abbrev pub not_ended : Work → List Current
not_ended w = option_to_list w.current ++ waiting w

-- a message's envelope, and the execution count in it
abbrev pub CountedEnvelope : Type 0
CountedEnvelope = Envelope × ℕ

abbrev pub ending_reply : Content → Envelope → Option CountedEnvelope
ending_reply (content.ExecuteReply count ending) e = if refuses ending then None else Some (e, count)
ending_reply _ e = None

-- the execute_reply of an execution
abbrev pub execution_reply : Letter → Option CountedEnvelope
execution_reply l = ending_reply l.content l.envelope

abbrev pub execution_envelope : Execution → Envelope
execution_envelope x = reply_envelope x.connection x.identities x.header

-- the execute_reply that an execution has to get
abbrev pub reply_due : Current → CountedEnvelope
reply_due c = (execution_envelope c.execution, c.count)

-- the parent of an execute_input, the code, and the execution count
abbrev pub Input : Type 0
Input = Bytes × Text × ℕ

abbrev pub content_input : Content → Bytes → Option Input
content_input (content.ExecuteInput code count) parent = Some (parent, code, count)
content_input _ parent = None

abbrev pub input_in : Letter → Option Input
input_in l = content_input l.content l.envelope.parent

-- the execute_input of an execution; that of a silent one is not published
abbrev pub input_due : Current → Option Input
input_due c =
    if c.execution.request.is_silent then None
    else Some (c.execution.header, c.execution.request.code, c.count)

-- Each execution gets one execute_reply, with its execution count, in the order in which they were requested,
-- and those that haven't ended have none yet. When it is taken from the queue, it gets one execute_input with
-- the same count. An execute_reply comes when there is no run any more.
pub record ExecutionsAreAnswered (calls : List Call) : Type 0 where
  pub replies : filter_map execution_reply (letters_of calls)
      ++ map reply_due (not_ended (state_after calls).work) ≡ map reply_due (executions_of calls)
  pub inputs : filter_map input_in (letters_of calls)
      ++ filter_map input_due (waiting (state_after calls).work) ≡ filter_map input_due (executions_of calls)
  pub end : (c : Call) → (filter_map execution_reply (turn c (state_after calls)).letters ≡ [])
      ⊎ ((next (state_after calls) c).board.run ≡ NoRun)

-- ---- addressees

abbrev pub IsPrefix : Bytes → Text → Type 0
IsPrefix prefix topic = (rest : Bytes) × (topic ≡ prefix ++ rest)

-- the connection is on iopub, and subscribed to a prefix of the topic
abbrev pub Subscribes : Text → Peer → Type 0
Subscribes topic p = (p.channel ≡ Iopub) × Any (λ prefix. IsPrefix prefix topic) p.prefixes

abbrev pub IsSubscriber : Text → List Peer → ℕ → Type 0
IsSubscriber topic peers n = Any (λ p. (p.number ≡ n) × Subscribes topic p) peers

-- to the subscribers to its type
abbrev pub IsPublished : KernelState → Letter → Type 0
IsPublished s l =
    (l.envelope.head ≡ Topic) × (l.envelope.to ≡ subscribers (topic_of l.content) s.connections.peers)

-- a connection that subscribes to statuses gets the current one, which has no parent, alone
abbrev pub IsFirstStatus : Call → Envelope → Type 0
IsFirstStatus (call.Subscribe n c) e = e ≡ record { to = n ∷ []; head = Topic; parent = codes "{}" }
IsFirstStatus _ e = ⊥

-- to the stdin connection with the identity of the connection whose execution runs
abbrev pub AsksForInput : KernelState → Envelope → Type 0
AsksForInput s e =
    (c : Current) × (n : ℕ) × (s.work.current ≡ Some c) × (c.execution.request.allows_stdin ≡ true)
    × (stdin_of c.execution.identity s.connections.peers ≡ Some n)
    × (e ≡ reply_envelope n c.execution.identities c.execution.header)

-- to one connection, with identities
abbrev pub IsToOne : Envelope → Type 0
IsToOne e = (n : ℕ) × (identities : Frames) × (e ≡ reply_envelope n identities e.parent)

abbrev pub IsAddressedBy : Content → Call → KernelState → Letter → Type 0
IsAddressedBy (content.Status state) c s l = IsPublished s l ⊎ IsFirstStatus c l.envelope
IsAddressedBy (content.ExecuteInput code count) c s l = IsPublished s l
IsAddressedBy (content.Stream bytes) c s l = IsPublished s l
IsAddressedBy (content.Error fault) c s l = IsPublished s l
IsAddressedBy (content.CommClose comm_id) c s l = IsPublished s l
IsAddressedBy (content.DebugEvent event) c s l = IsPublished s l
IsAddressedBy content.InputRequest c s l = AsksForInput s l.envelope
IsAddressedBy _ c s l = IsToOne l.envelope

-- what a call posts on iopub goes to the subscribers of that moment, and all else to one connection
abbrev pub IsAddressed : Call → KernelState → Letter → Type 0
IsAddressed c s l = IsAddressedBy l.content c s l

-- ---- posts to a connection

-- the posts to it with numbers below this one; a post's number is its place in the list, from 1
unfoldable pub posts_below : ℕ → ℕ → List Post → List Post
posts_below connection number posts = filter (is_to connection) (take (number - 1) posts)

-- A connection that joins after these calls is new: whatever calls come later, no post is to it that has a
-- number below the one that its Join is answered.
abbrev pub JoinsAreNew : List Call → Type 0
JoinsAreNew calls = (later : List Call) (channel : Channel) (identity : Bytes) (connection from : ℕ)
    → answer_after calls (call.Join channel identity) ≡ Ok (Joined connection from)
    → posts_below connection from (state_after (calls ++ later)).posts ≡ []

-- ---- conversations

abbrev pub content_about : Bytes → Letter → Option Content
content_about parent l = if bytes_eq l.envelope.parent parent then Some l.content else None

abbrev pub IsNoStatus : Content → Type 0
IsNoStatus (content.Status state) = ⊥
IsNoStatus _ = Unit {0}

-- whether the execution that is under way has this header
abbrev pub is_under_way : Bytes → Option Current → Bool
is_under_way header None = false
is_under_way header (Some c) = bytes_eq c.execution.header header

-- Nothing; or busy, and then what is no status, while the execution is under way; or, once it isn't, idle
-- after that, and nothing more.
abbrev pub IsConversation : Bool → List Content → Type 0
IsConversation under_way contents =
    (contents ≡ []) ⊎ ((between : List Content) × AllByRecursion IsNoStatus between
    × (((contents ≡ content.Status Busy ∷ between) × (under_way ≡ true))
    ⊎ (contents ≡ content.Status Busy ∷ (between ++ content.Status Idle ∷ []))))

abbrev pub has_header : Bytes → Incoming → Bool
has_header header i = bytes_eq i.request.header header

-- how many requests of these calls have this header
abbrev pub requests_with : Bytes → List Call → ℕ
requests_with header calls = count_by (has_header header) (requests_of calls)
