-- The reply to each request, and what the request does to the kernel (Jupyter messaging, "Messages on the
-- shell channel" and the sections that follow it).
use Rattle.std.specs.Prelude.{ℕ, nat_lt, nat_le, List, [], ◌∷◌, ◌++◌, length, Bool, true, false, ◌&&◌, Option}
use Rattle.std.specs.Prelude.{Some, None, option_to_list, Result, Ok, Err, codes, if◌then◌else◌}
use Rattle.base_text.specs.Bytes.{Bytes, Text}
use Rattle.jup_wire.specs.declared.channel.Channel.TheVariants.{Iopub}
use Rattle.asm_syntax.specs.declared.fault.FaultKind.{FaultKind}
use Rattle.asm_syntax.specs.declared.fault.FaultKind.TheVariants.{Conditional}
use Rattle.asm_syntax.specs.Outcome.{CellFault}
use Rattle.asm_text.specs.Statements.{statements_of}
use Rattle.i80_devs.specs.Past.{Typed}
use Rattle.lab_core.specs.declared.fault.EventFault.{EventFault}
use Rattle.lab_core.specs.Board.{Board}
use Rattle.lab_core.specs.Events.{reset, with_operation}
use Rattle.dap_talk.specs.declared.command.DapCommand.{DapCommand}
use Rattle.dap_talk.specs.declared.command.DapCommand.TheVariants.{SetBreakpoints, Disassemble, BoardReset}
use Rattle.dap_talk.specs.declared.command.DapRequest.{DapRequest}
use Rattle.dap_talk.specs.Table.{name_of, spelling_of}
use Rattle.dap_answers.specs.declared.answer.Body.{Body}
use Rattle.dap_answers.specs.declared.answer.Event.{Event}
use Rattle.dap_answers.specs.declared.answer.Outcome.{Outcome}
use Rattle.dap_answers.specs.declared.answer.Outcome.TheVariants.{Success, Refused}
use Rattle.dap_answers.specs.declared.answer.Response.{Response}
use Rattle.dap_board.specs.Commands.{command_result}
use Rattle.dap_board.specs.Names.{refusal_name, event_after}
use Rattle.kern_request.specs.declared.request.RequestBody.{RequestBody}
use Rattle.kern_request.specs.declared.request.RequestBody.TheVariants as body
use Rattle.kern_request.specs.declared.request.ExecuteRequest.{ExecuteRequest}
use Rattle.kern_request.specs.declared.request.NeedyRequest.{NeedyRequest}
use Rattle.kern_request.specs.declared.request.NeedyRequest.TheVariants as needy
use Rattle.kern_request.specs.declared.request.Request.{Request}
use Rattle.kern_peers.specs.Connections.{Connections, is_on}
use Rattle.kern_post.specs.declared.content.Cause.{Cause}
use Rattle.kern_post.specs.declared.content.Cause.TheVariants as cause
use Rattle.kern_post.specs.declared.content.Completeness.{Completeness}
use Rattle.kern_post.specs.declared.content.Completeness.TheVariants as completeness
use Rattle.kern_post.specs.declared.content.Content.{Content}
use Rattle.kern_post.specs.declared.content.Content.TheVariants as content
use Rattle.kern_post.specs.declared.content.Ending.TheVariants.{Failed}
use Rattle.kern_post.specs.declared.content.RefusedRequest.TheVariants as bad
use Rattle.kern_post.specs.declared.post.Letter.{Letter}
use Rattle.kern_exec.specs.declared.execution.Current.{Current}
use Rattle.kern_exec.specs.Letters.{publication, reply_letter, between_busy_and_idle}
use Rattle.kern_exec.specs.Executions.{Work, execution_of, enqueue, clear_current}
use Rattle.kern_exec.specs.Ends.{error_letters, cut_letters as letters_of_cut}
use Rattle.kern_exec.specs.Boards.{is_run, end_run_if_any}
use Rattle.kern_calls.specs.declared.call.Reply.TheVariants.{Arrived}
use Rattle.kern_calls.specs.declared.fault.KernelFault.TheVariants.{NoConnection}
use Rattle.kern_core.specs.States.{KernelState, Turn, refuse_turn, turn_without_posts, posting}
use Rattle.kern_core.specs.Connections.{with_peer}

-- ---- one reply between busy and idle

-- a text is incomplete if its first fault is a missing ENDIF, which is then its only one
abbrev pub completeness_by : FaultKind → Completeness
completeness_by (Conditional true) = completeness.Incomplete
completeness_by _ = completeness.Invalid

abbrev pub completeness_of : {A : Type 0} → Result A CellFault → Completeness
completeness_of (Ok statements) = completeness.Complete
completeness_of (Err (line, column, kind)) = completeness_by kind

-- the reply to a request that does nothing but get a reply
abbrev pub plain_reply : ℕ → RequestBody → Option Content
plain_reply count body.KernelInfo = Some content.KernelInfoReply
plain_reply count (body.IsComplete code) =
    Some (content.IsCompleteReply (completeness_of (statements_of code)))
plain_reply count (body.Complete cursor_pos) = Some (content.CompleteReply cursor_pos)
plain_reply count body.Inspect = Some content.InspectReply
plain_reply count body.History = Some content.HistoryReply
plain_reply count body.CommInfo = Some content.CommInfoReply
plain_reply count (body.BadDebug response) = Some (content.DebugReply response)
plain_reply count (body.BadContent needy.Execute) =
    Some (content.ExecuteReply count (Failed cause.BadContent))
plain_reply count (body.BadContent needy.IsComplete) = Some (content.BadContentReply bad.IsComplete)
plain_reply count (body.BadContent needy.Complete) = Some (content.BadContentReply bad.Complete)
plain_reply count (body.BadContent needy.Shutdown) = Some (content.BadContentReply bad.Shutdown)
plain_reply count _ = None

abbrev pub reply_to : ℕ → Request → Content → Letter
reply_to n r c = reply_letter n r.identities r.header c

abbrev pub replying : ℕ → Request → Content → ℕ → KernelState → Turn
replying n r c unix_seconds s =
    posting Arrived unix_seconds (between_busy_and_idle s.connections r.header (reply_to n r c ∷ [])) s

-- ---- executions

-- the error, unless the request is silent, and the reply
abbrev pub full_letters : ℕ → Request → Bool → Connections → ℕ → List Letter
full_letters n r is_silent connections count =
    error_letters is_silent connections r.header (Failed cause.QueueFull) ++
    reply_to n r (content.ExecuteReply count (Failed cause.QueueFull)) ∷ []

abbrev pub queue_full : ℕ → Request → ExecuteRequest → ℕ → KernelState → Turn
queue_full n r x unix_seconds s = posting Arrived unix_seconds
    (between_busy_and_idle s.connections r.header (full_letters n r x.is_silent s.connections s.work.count)) s

abbrev pub executing : ℕ → Bytes → Request → ExecuteRequest → ℕ → KernelState → Turn
executing n identity r x unix_seconds s =
    if nat_lt (length s.work.queue) 64
    then turn_without_posts Arrived (record s { work = enqueue (execution_of n identity r x) s.work })
    else queue_full n r x unix_seconds s

-- ---- requests that end the run

-- the execution whose run ends, if there is a run
abbrev pub cut_of : KernelState → Option Current
cut_of s = if is_run s.board.run then s.work.current else None

-- the letters of its end
abbrev pub cut_letters : Cause → KernelState → List Letter
cut_letters c s = letters_of_cut s.connections (cut_of s) c

abbrev pub cut_work : KernelState → Work
cut_work s = if is_run s.board.run then clear_current s.work else s.work

abbrev pub with_board : Board → Work → KernelState → KernelState
with_board b w s = record s { board = b; work = w }

abbrev pub interrupting : ℕ → Request → ℕ → KernelState → Turn
interrupting n r unix_seconds s = posting Arrived unix_seconds
    (between_busy_and_idle s.connections r.header
    (cut_letters cause.Interrupted s ++ reply_to n r content.InterruptReply ∷ []))
    (with_board (end_run_if_any s.board) (cut_work s) s)

abbrev pub set_shut : KernelState → KernelState
set_shut s = record s { is_shut = true }

-- the board is reset only if the kernel restarts
abbrev pub shutting : ℕ → Request → Bool → ℕ → KernelState → Turn
shutting n r false unix_seconds s = posting Arrived unix_seconds
    (between_busy_and_idle s.connections r.header (reply_to n r (content.ShutdownReply false) ∷ []))
    (set_shut s)
shutting n r true unix_seconds s = posting Arrived unix_seconds
    (between_busy_and_idle s.connections r.header
    (cut_letters cause.Reset s ++ reply_to n r (content.ShutdownReply true) ∷ []))
    (set_shut (with_board (reset s.board) (cut_work s) s))

-- ---- debug requests

abbrev pub response_to : DapRequest → Outcome → Response
response_to d outcome =
    record { request_seq = d.seq; command = spelling_of (name_of d.command); outcome = outcome }

abbrev pub debug_reply : ℕ → Request → DapRequest → Outcome → Letter
debug_reply n r d outcome = reply_to n r (content.DebugReply (response_to d outcome))

-- only a reset of the board ends a run
abbrev pub is_reset : DapCommand → Bool
is_reset BoardReset = true
is_reset _ = false

abbrev pub ended_by : DapCommand → KernelState → List Letter
ended_by command s = if is_reset command then cut_letters cause.Reset s else []

abbrev pub work_by : DapCommand → KernelState → Work
work_by command s = if is_reset command then cut_work s else s.work

-- the event that is published after the command was performed
abbrev pub after_letter : Option Event → Request → KernelState → Option Letter
after_letter None r s = None
after_letter (Some e) r s = Some (publication s.connections r.header (content.DebugEvent e))

abbrev pub refusing : ℕ → Request → DapRequest → Text → ℕ → KernelState → Turn
refusing n r d message unix_seconds s = posting Arrived unix_seconds
    (between_busy_and_idle s.connections r.header (debug_reply n r d (Refused message) ∷ [])) s

-- the letters that report the result of a command, and the event after it if there is one
abbrev pub performed_letters : Result Body EventFault → Option Letter → ℕ → Request → DapRequest → List Letter
performed_letters (Ok body) after n r d = debug_reply n r d (Success body) ∷ option_to_list after
performed_letters (Err fault) after n r d = debug_reply n r d (Refused (refusal_name fault)) ∷ []

abbrev pub answering : ℕ → Request → DapRequest → ℕ → KernelState → Result (Body × Board) EventFault → Turn
answering n r d unix_seconds s (Ok (body, b)) = posting Arrived unix_seconds
    (between_busy_and_idle s.connections r.header
    (ended_by d.command s ++ performed_letters (Ok body) (after_letter (event_after d.command) r s) n r d))
    (with_board b (work_by d.command s) s)
answering n r d unix_seconds s (Err fault) = refusing n r d (refusal_name fault) unix_seconds s

abbrev pub performing : ℕ → Request → DapRequest → ℕ → KernelState → Turn
performing n r d unix_seconds s = answering n r d unix_seconds s (command_result d.command s.board)

-- every request that was read from a message is within these bounds
abbrev pub is_bounded : DapCommand → Bool
is_bounded (SetBreakpoints path lines) = nat_le (length lines) 256
is_bounded (Disassemble address offset instruction_offset count) = nat_le 1 count && nat_le count 256
is_bounded _ = true

abbrev pub debugging : ℕ → Request → DapRequest → ℕ → KernelState → Turn
debugging n r d unix_seconds s =
    if is_bounded d.command then performing n r d unix_seconds s
    else refusing n r d (codes "Arguments") unix_seconds s

-- ---- other requests

abbrev pub typing : Bytes → KernelState → Turn
typing bytes s = turn_without_posts Arrived (record s { board = with_operation (Typed bytes) s.board })

abbrev pub closing : Request → Text → ℕ → KernelState → Turn
closing r comm_id unix_seconds s = posting Arrived unix_seconds
    (between_busy_and_idle s.connections r.header
    (publication s.connections r.header (content.CommClose comm_id) ∷ [])) s

-- busy and idle, and no more
abbrev pub passing : Request → ℕ → KernelState → Turn
passing r unix_seconds s = posting Arrived unix_seconds (between_busy_and_idle s.connections r.header []) s

-- an input_reply with a bad content is ignored
abbrev pub ignore_request : Request → NeedyRequest → ℕ → KernelState → Turn
ignore_request r needy.InputReply unix_seconds s = turn_without_posts Arrived s
ignore_request r _ unix_seconds s = passing r unix_seconds s

abbrev pub other : ℕ → Bytes → Request → RequestBody → ℕ → KernelState → Turn
other n identity r (body.Execute x) unix_seconds s = executing n identity r x unix_seconds s
other n identity r (body.CommOpen comm_id) unix_seconds s = closing r comm_id unix_seconds s
other n identity r (body.Shutdown restarts) unix_seconds s = shutting n r restarts unix_seconds s
other n identity r body.Interrupt unix_seconds s = interrupting n r unix_seconds s
other n identity r (body.Debug d) unix_seconds s = debugging n r d unix_seconds s
other n identity r (body.InputReply typed) unix_seconds s = typing typed s
other n identity r (body.BadContent lacking) unix_seconds s = ignore_request r lacking unix_seconds s
other n identity r _ unix_seconds s = passing r unix_seconds s

abbrev pub by_reply : Option Content → ℕ → Bytes → Request → ℕ → KernelState → Turn
by_reply (Some c) n identity r unix_seconds s = replying n r c unix_seconds s
by_reply None n identity r unix_seconds s = other n identity r r.body unix_seconds s

abbrev pub arriving : ℕ → Request → ℕ → KernelState → Turn
arriving n r unix_seconds s = with_peer n s (λ p.
    if is_on Iopub p then refuse_turn NoConnection s else
    by_reply (plain_reply s.work.count r.body) n p.identity r unix_seconds s)
