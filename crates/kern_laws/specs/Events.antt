-- The events of the board that calls make, in order.
use Rattle.std.specs.Prelude.{◌≡◌, ℕ, List, [], ◌∷◌, ◌++◌, map, Bool, true, false, Option, Some, None}
use Rattle.std.specs.Prelude.{Result, Ok, Err, option_to_list, if◌then◌else◌}
use Rattle.std.specs.List.{filter_map}
use Rattle.base_text.specs.Bytes.{Bytes}
use Rattle.base_text.specs.Latin.{latin_bytes}
use Rattle.jup_wire.specs.declared.channel.Channel.TheVariants.{Iopub}
use Rattle.lab_core.specs.declared.run_state.RunState.{RunState}
use Rattle.lab_core.specs.declared.run_state.RunState.TheVariants.{NoRun, Running, Stopped}
use Rattle.lab_core.specs.declared.event.Event.{Event}
use Rattle.lab_core.specs.declared.event.Event.TheVariants as event
use Rattle.lab_core.specs.declared.answer.Answer.{Answer}
use Rattle.lab_core.specs.declared.answer.Answer.TheVariants as answer
use Rattle.lab_core.specs.declared.answer.SliceOutcome.{SliceOutcome}
use Rattle.lab_core.specs.declared.answer.SliceOutcome.TheVariants as outcome
use Rattle.lab_core.specs.declared.fault.EventFault.{EventFault}
use Rattle.lab_core.specs.Board.{Board, opening}
use Rattle.lab_core.specs.Events.{Runs}
use Rattle.dap_talk.specs.declared.command.DapCommand.{DapCommand}
use Rattle.dap_talk.specs.declared.command.DapCommand.TheVariants as command
use Rattle.dap_answers.specs.declared.answer.Body.{Body}
use Rattle.dap_answers.specs.declared.answer.Body.TheVariants as body
use Rattle.dap_answers.specs.declared.answer.Event.{Event as DebugEvent}
use Rattle.dap_answers.specs.declared.answer.Event.TheVariants as debug
use Rattle.dap_answers.specs.declared.answer.Outcome.{Outcome}
use Rattle.dap_answers.specs.declared.answer.Outcome.TheVariants.{Success, Refused}
use Rattle.dap_answers.specs.declared.answer.StopReason.{StopReason}
use Rattle.dap_answers.specs.declared.answer.StopReason.TheVariants.{Pause}
use Rattle.dap_answers.specs.Murmur.{cell_path}
use Rattle.dap_board.specs.Commands.{step_request, board_with, command_result}
use Rattle.dap_board.specs.Names.{reason_of}
use Rattle.kern_request.specs.declared.request.Request.{Request}
use Rattle.kern_request.specs.declared.request.RequestBody.{RequestBody}
use Rattle.kern_request.specs.declared.request.RequestBody.TheVariants as request
use Rattle.kern_peers.specs.declared.peer.Peer.{Peer}
use Rattle.kern_peers.specs.Connections.{peer_at, is_on}
use Rattle.kern_post.specs.declared.content.Content.{Content}
use Rattle.kern_post.specs.declared.content.Content.TheVariants as content
use Rattle.kern_post.specs.declared.post.Letter.{Letter}
use Rattle.kern_exec.specs.declared.execution.Execution.{Execution}
use Rattle.kern_exec.specs.Executions.{Work}
use Rattle.kern_calls.specs.declared.call.Call.{Call}
use Rattle.kern_calls.specs.declared.call.Call.TheVariants as call
use Rattle.kern_core.specs.States.{KernelState, kernel_before_calls}
use Rattle.kern_core.specs.Requests.{is_bounded}
use Rattle.kern_core.specs.Turns.{next, state_after}

-- ---- requests that reach the kernel

-- a request, the connection that makes it, and the identity with which that connection joined
pub record Incoming : Type 0 where
  pub connection : ℕ
  pub identity : Bytes
  pub request : Request

-- a connection can make requests if it is open and isn't on iopub
abbrev pub incoming_from : Option Peer → ℕ → Request → Option Incoming
incoming_from None n r = None
incoming_from (Some p) n r =
    if is_on Iopub p then None
    else Some (record { connection = n; identity = p.identity; request = r })

-- the request that a call delivers, if it delivers one
abbrev pub incoming : Call → KernelState → Option Incoming
incoming (call.Arrive n c) s = incoming_from (peer_at n s.connections.peers) n c.request
incoming _ s = None

-- ---- the events of a call

-- the event by which a debug command acts on the board; one that looks at the board leaves it as it is
abbrev pub command_events : DapCommand → List Event
command_events command.Attach = event.Attach ∷ []
command_events command.Disconnect = event.Detach ∷ []
command_events (command.SetBreakpoints path lines) = event.SetBreakpoints path lines ∷ []
command_events command.Continue = event.Resume ∷ []
command_events (command.Step kind granularity) = event.Step (step_request kind granularity) ∷ []
command_events command.Pause = event.Pause ∷ []
command_events (command.DumpCell code) = event.Dump (cell_path code) code ∷ []
command_events (command.SetVariable reference name value) = event.Poke reference name value ∷ []
command_events (command.BoardSwitches value) = event.Switches value ∷ []
command_events (command.BoardPress vector) = event.Press vector ∷ []
command_events (command.BoardType text) = event.Typed (latin_bytes text) ∷ []
command_events command.BoardReset = event.Reset ∷ []
command_events (command.BoardAliases aliases) = event.SetBoard (board_with aliases) ∷ []
command_events _ = []

-- an interrupt ends the run, a restart resets the board, and a line of input is typed
abbrev pub request_events : RequestBody → List Event
request_events request.Interrupt = event.Interrupt ∷ []
request_events (request.Shutdown true) = event.Reset ∷ []
request_events (request.InputReply typed) = event.Typed typed ∷ []
request_events (request.Debug d) = if is_bounded d.command then command_events d.command else []
request_events _ = []

abbrev pub incoming_events : Option Incoming → List Event
incoming_events None = []
incoming_events (Some i) = request_events i.request.body

-- the next cell is loaded
abbrev pub load_events : List Execution → List Event
load_events [] = []
load_events (x ∷ rest) = event.Load (cell_path x.request.code) x.request.code ∷ []

-- or the run of the last one that was loaded starts
abbrev pub start_events : Option ℕ → List Execution → List Event
start_events (Some address) queue = event.Start address ∷ []
start_events None queue = load_events queue

-- or the run makes at most 4,096 steps
abbrev pub run_events : RunState → Work → List Event
run_events Running w = event.Slice 4096 ∷ []
run_events Stopped w = []
run_events NoRun w = start_events w.pending w.queue

abbrev pub call_events : Call → KernelState → List Event
call_events (call.Slice unix_seconds) s = if s.is_shut then [] else run_events s.board.run s.work
call_events (call.Arrive n c) s = incoming_events (incoming (call.Arrive n c) s)
call_events _ s = []

-- ---- lists of calls

-- what f says of each call, in order, and of the kernel before it
abbrev pub along : {A : Type 0} → (Call → KernelState → List A) → List Call → KernelState → List A
along f [] s = []
along f (call ∷ calls) s = f call s ++ along f calls (next s call)

-- the events of these calls, in order
abbrev pub events_of : List Call → List Event
events_of calls = along call_events calls kernel_before_calls

-- all letters that these calls posted, in order
abbrev pub letters_of : List Call → List Letter
letters_of calls = map (λ p. p.letter) (state_after calls).posts

-- ---- what answers say of the board

abbrev pub outcome_stop : SliceOutcome → Option StopReason
outcome_stop (outcome.Stop s) = Some (reason_of s)
outcome_stop _ = None

abbrev pub slice_stop : Answer → Option StopReason
slice_stop (answer.Sliced k traffic ending) = outcome_stop ending
slice_stop _ = None

abbrev pub stop_by : Event → Answer → Option StopReason
stop_by event.Pause a = Some Pause
stop_by (event.Slice n) a = slice_stop a
stop_by _ a = None

-- why the run stopped, if this event stopped it
abbrev pub event_stop : Event → Result Answer EventFault → Option StopReason
event_stop e (Ok a) = stop_by e a
event_stop e (Err f) = None

-- what f says of each event and its answer, in order
abbrev pub of_answers : {A : Type 0} → (Event → Result Answer EventFault → Option A) → List Event
    → List (Result Answer EventFault) → List A
of_answers f (e ∷ events) (r ∷ replies) = option_to_list (f e r) ++ of_answers f events replies
of_answers f _ _ = []

-- ---- what posts say of it

abbrev pub debug_stop : DebugEvent → Option StopReason
debug_stop (debug.Stopped reason) = Some reason
debug_stop _ = None

abbrev pub content_stop : Content → Option StopReason
content_stop (content.DebugEvent e) = debug_stop e
content_stop _ = None

-- the reason in a `stopped` event
abbrev pub stop_in : Letter → Option StopReason
stop_in l = content_stop l.content

-- whether a body shows something of a board
abbrev pub is_view : Body → Bool
is_view body.Empty = false
is_view body.Capabilities = false
is_view body.Threads = false
is_view body.Continued = false
is_view (body.SourcePath path) = false
is_view _ = true

abbrev pub outcome_view : Outcome → Option Body
outcome_view (Success b) = if is_view b then Some b else None
outcome_view (Refused message) = None

abbrev pub content_view : Content → Option Body
content_view (content.DebugReply response) = outcome_view response.outcome
content_view _ = None

-- what a debug_reply shows of a board
abbrev pub view_in : Letter → Option Body
view_in l = content_view l.content

-- ---- the board of a kernel

abbrev pub result_view : Result (Body × Board) EventFault → Option Body
result_view (Ok (b, board)) = outcome_view (Success b)
result_view (Err fault) = None

abbrev pub command_view : DapCommand → Board → Option Body
command_view c b = if is_bounded c then result_view (command_result c b) else None

-- what a request asks to see of this board; the response to a debug request that can't be carried out comes
-- with the request
abbrev pub request_view : RequestBody → Board → Option Body
request_view (request.Debug d) b = command_view d.command b
request_view (request.BadDebug response) b = outcome_view response.outcome
request_view _ b = None

abbrev pub incoming_view : Option Incoming → Board → Option Body
incoming_view None b = None
incoming_view (Some i) b = request_view i.request.body b

abbrev pub call_views : Call → KernelState → List Body
call_views c s = option_to_list (incoming_view (incoming c s) s.board)

-- The kernel's board is the board after the calls' events. The `stopped` events that were posted are the
-- stops that these events report, and what debug_replies show is what the board of that moment shows.
pub record BoardIsAfterEvents (calls : List Call) : Type 0 where
  pub replies : List (Result Answer EventFault)
  pub runs : Runs opening (events_of calls) replies (state_after calls).board
  pub stops : filter_map stop_in (letters_of calls) ≡ of_answers event_stop (events_of calls) replies
  pub views : filter_map view_in (letters_of calls) ≡ along call_views calls kernel_before_calls
