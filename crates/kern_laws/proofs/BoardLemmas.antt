-- The board after each call is the board after its events.
use Rattle.std.proofs.Common.{◌≡◌, ◌∙◌, ℕ, List, [], ◌∷◌, ◌++◌, Bool, true, false, Option, Some, None, Result}
use Rattle.std.proofs.Common.{Ok, Err, refl, sym, ap, fold, length, nat_lt, lit≤, if◌then◌else◌}
use Rattle.std.proofs.lemmas.Bool.{leb-true}
use Rattle.std.proofs.lemmas.List.Elements.{All-from_recursion, All-nil, All-append}
use Rattle.std.specs.List.{All, AllByRecursion}
use Rattle.base_text.specs.Bytes.{Bytes}
use Rattle.base_text.specs.Latin.{latin_bytes}
use Rattle.lab_core.specs.declared.run_state.RunState.{RunState}
use Rattle.lab_core.specs.declared.run_state.RunState.TheVariants.{NoRun, Running, Stopped}
use Rattle.lab_core.specs.declared.event.Event.{Event}
use Rattle.lab_core.specs.declared.event.Event.TheVariants as event
use Rattle.lab_core.specs.declared.answer.Answer.{Answer}
use Rattle.lab_core.specs.declared.answer.Answer.TheVariants as answer
use Rattle.lab_core.specs.declared.fault.EventFault.{EventFault}
use Rattle.lab_core.specs.Board.{Board}
use Rattle.lab_core.specs.Events.{EventResult, Gives, Runs, Fits, result_of, after_start, after_end}
use Rattle.lab_core.specs.Events.{as_answer}
use Rattle.lab_core.specs.Events.{without_run, with_run, while_running}
use Rattle.lab_core.specs.SliceEnds.{slice_end, sliced_at, after_slice}
use Rattle.lab_core.proofs.LawLemmas.{given-applies}
use Rattle.dap_talk.specs.declared.command.DapCommand.{DapCommand}
use Rattle.dap_talk.specs.declared.command.DapCommand.TheVariants as command
use Rattle.dap_talk.specs.declared.command.DapRequest.{DapRequest}
use Rattle.dap_answers.specs.declared.answer.Body.{Body}
use Rattle.dap_answers.specs.Murmur.{cell_path}
use Rattle.dap_answers.specs.declared.answer.Body.TheVariants as body
use Rattle.dap_board.specs.Bodies.{body_of}
use Rattle.dap_board.specs.Commands.{command_result, with_body, step_request, board_with}
use Rattle.kern_request.specs.declared.request.Request.{Request}
use Rattle.kern_request.specs.declared.request.RequestBody.{RequestBody}
use Rattle.kern_request.specs.declared.request.RequestBody.TheVariants as request
use Rattle.kern_request.specs.declared.request.NeedyRequest.TheVariants as needy
use Rattle.kern_exec.specs.declared.execution.Execution.{Execution}
use Rattle.kern_exec.specs.Executions.{Work}
use Rattle.kern_exec.specs.Boards.{board_after, is_run}
use Rattle.kern_calls.specs.declared.call.Call.{Call}
use Rattle.kern_calls.specs.declared.call.Call.TheVariants as call
use Rattle.kern_calls.specs.declared.call.Reply.TheVariants.{Ended}
use Rattle.kern_core.specs.States.{KernelState, Turn, turn_without_posts}
use Rattle.kern_core.specs.Requests.{plain_reply, by_reply, answering, is_bounded, performing, refusing}
use Rattle.kern_core.specs.Slices.{loading, by_start, by_run}
use Rattle.kern_core.specs.Turns.{turn, next}
use Rattle.kern_laws.specs.Events.{Incoming, incoming, command_events, request_events, incoming_events}
use Rattle.kern_laws.specs.Events.{load_events, start_events, run_events, call_events, along}
use Rattle.kern_laws.proofs.CaseLemmas.{either, IsOfCalls, by_call}

-- the board after events, of which those that are refused leave it
abbrev pub after_events : List Event → Board → Board
after_events [] b = b
after_events (e ∷ events) b = after_events events (board_after b (result_of e b))

-- this turn leaves the board that the events leave
abbrev Acts : List Event → KernelState → Turn → Type 0
Acts events s t = t.state.board ≡ after_events events s.board

-- ---- requests

-- whatever the board answers, the board after the request is the one that it answers with
answers_acts : (n : ℕ) (r : Request) (d : DapRequest) (unix_seconds : ℕ) (s : KernelState)
    (to_body : Answer → Body) (g : EventResult)
    → (answering n r d unix_seconds s (with_body to_body g)).state.board ≡ board_after s.board g
answers_acts n r d unix_seconds s to_body (Ok (a, b)) = refl
answers_acts n r d unix_seconds s to_body (Err f) = refl

-- a look leaves the board, whatever it shows
look_acts : (n : ℕ) (r : Request) (d : DapRequest) (unix_seconds : ℕ) (s : KernelState) (shown : _)
    → (answering n r d unix_seconds s (with_body body_of (as_answer shown s.board))).state.board ≡ s.board
look_acts n r d unix_seconds s (Ok x) = refl
look_acts n r d unix_seconds s (Err f) = refl

command_acts : (n : ℕ) (r : Request) (d : DapRequest) (unix_seconds : ℕ) (s : KernelState) (c : DapCommand)
    → Acts (command_events c) s (answering n r d unix_seconds s (command_result c s.board))
unfolding command_result
command_acts n r d unix_seconds s command.Attach =
    answers_acts n r d unix_seconds s (λ a. body.Empty) (result_of event.Attach s.board)
command_acts n r d unix_seconds s command.Disconnect =
    answers_acts n r d unix_seconds s (λ a. body.Empty) (result_of event.Detach s.board)
command_acts n r d unix_seconds s (command.SetBreakpoints path lines) =
    answers_acts n r d unix_seconds s body_of (result_of (event.SetBreakpoints path lines) s.board)
command_acts n r d unix_seconds s command.Continue =
    answers_acts n r d unix_seconds s (λ a. body.Continued) (result_of event.Resume s.board)
command_acts n r d unix_seconds s (command.Step kind granularity) =
    answers_acts n r d unix_seconds s (λ a. body.Empty)
    (result_of (event.Step (step_request kind granularity)) s.board)
command_acts n r d unix_seconds s command.Pause =
    answers_acts n r d unix_seconds s (λ a. body.Empty) (result_of event.Pause s.board)
command_acts n r d unix_seconds s (command.DumpCell code) =
    answers_acts n r d unix_seconds s (λ a. body.SourcePath (cell_path code))
    (result_of (event.Dump (cell_path code) code) s.board)
command_acts n r d unix_seconds s (command.SetVariable reference name value) =
    answers_acts n r d unix_seconds s body_of (result_of (event.Poke reference name value) s.board)
command_acts n r d unix_seconds s (command.BoardSwitches value) =
    answers_acts n r d unix_seconds s (λ a. body.Empty) (result_of (event.Switches value) s.board)
command_acts n r d unix_seconds s (command.BoardPress vector) =
    answers_acts n r d unix_seconds s (λ a. body.Empty) (result_of (event.Press vector) s.board)
command_acts n r d unix_seconds s (command.BoardType text) =
    answers_acts n r d unix_seconds s (λ a. body.Empty) (result_of (event.Typed (latin_bytes text)) s.board)
command_acts n r d unix_seconds s command.BoardReset =
    answers_acts n r d unix_seconds s (λ a. body.Empty) (result_of event.Reset s.board)
command_acts n r d unix_seconds s (command.BoardAliases aliases) =
    answers_acts n r d unix_seconds s (λ a. body.Empty)
    (result_of (event.SetBoard (board_with aliases)) s.board)
command_acts n r d unix_seconds s (command.StackTrace start levels) = search look_acts
command_acts n r d unix_seconds s (command.Scopes frame) = search look_acts
command_acts n r d unix_seconds s (command.Variables reference start count) = search look_acts
command_acts n r d unix_seconds s (command.Source path) = search look_acts
command_acts n r d unix_seconds s _ = refl

debug_acts : (n : ℕ) (r : Request) (d : DapRequest) (unix_seconds : ℕ) (s : KernelState) (b : Bool)
    (message : List ℕ)
    → Acts (if b then command_events d.command else []) s
    (if b then performing n r d unix_seconds s else refusing n r d message unix_seconds s)
debug_acts n r d unix_seconds s true message = command_acts n r d unix_seconds s d.command
debug_acts n r d unix_seconds s false message = refl

interrupt_acts : (run : RunState) (b : Board) (a : Answer)
    → (if is_run run then after_end b else b) ≡ board_after b (with_run run (Ok (a, after_end b)))
interrupt_acts NoRun b a = refl
interrupt_acts Running b a = refl
interrupt_acts Stopped b a = refl

abbrev request_of : RequestBody → Request → Request
request_of body r = record r { body = body }

body_acts : (n : ℕ) (identity : Bytes) (r : Request) (unix_seconds : ℕ) (s : KernelState) (b : RequestBody)
    → Acts (request_events b) s
    (by_reply (plain_reply s.work.count b) n identity (request_of b r) unix_seconds s)
body_acts n identity r unix_seconds s (request.Execute x) =
    either (λ (t : Turn). t.state.board ≡ s.board) (nat_lt (length s.work.queue) 64) _ _ refl refl
body_acts n identity r unix_seconds s (request.Shutdown true) = refl
body_acts n identity r unix_seconds s (request.Shutdown false) = refl
body_acts n identity r unix_seconds s request.Interrupt =
    interrupt_acts s.board.run s.board answer.Interrupted
body_acts n identity r unix_seconds s (request.Debug d) =
    debug_acts n (request_of (request.Debug d) r) d unix_seconds s (is_bounded d.command) _
body_acts n identity r unix_seconds s (request.BadContent needy.Execute) = refl
body_acts n identity r unix_seconds s (request.BadContent needy.IsComplete) = refl
body_acts n identity r unix_seconds s (request.BadContent needy.Complete) = refl
body_acts n identity r unix_seconds s (request.BadContent needy.CommOpen) = refl
body_acts n identity r unix_seconds s (request.BadContent needy.Shutdown) = refl
body_acts n identity r unix_seconds s (request.BadContent needy.InputReply) = refl
body_acts n identity r unix_seconds s _ = refl

-- ---- slices

sliced_acts : (run : RunState) (b : Board) → run ≡ Running
    → after_slice b ≡ board_after b (while_running run (Ok (sliced_at b (slice_end b))))
sliced_acts Running b is = refl
sliced_acts NoRun b is = cc
sliced_acts Stopped b is = cc

started_acts : (run : RunState) (b : Board) (address : ℕ) → run ≡ NoRun
    → after_start address b ≡ board_after b (without_run run (Ok (answer.Started, after_start address b)))
started_acts NoRun b address is = refl
started_acts Running b address is = cc
started_acts Stopped b address is = cc

loading_acts : (queue : List Execution) (unix_seconds : ℕ) (s : KernelState)
    → Acts (load_events queue) s (loading unix_seconds queue s)
loading_acts [] unix_seconds s = refl
loading_acts (x ∷ rest) unix_seconds s = refl

start_acts : (pending : Option ℕ) (unix_seconds : ℕ) (s : KernelState) → s.board.run ≡ NoRun
    → Acts (start_events pending s.work.queue) s (by_start pending unix_seconds s)
start_acts None unix_seconds s is = loading_acts s.work.queue unix_seconds s
start_acts (Some address) unix_seconds s is = started_acts s.board.run s.board address is

run_acts : (run : RunState) (unix_seconds : ℕ) (s : KernelState) → s.board.run ≡ run
    → Acts (run_events run s.work) s (by_run run unix_seconds s)
run_acts Running unix_seconds s is = sliced_acts s.board.run s.board is
run_acts Stopped unix_seconds s is = refl
run_acts NoRun unix_seconds s is = start_acts s.work.pending unix_seconds s is

shut_acts : (b : Bool) (unix_seconds : ℕ) (s : KernelState)
    → Acts (if b then [] else run_events s.board.run s.work) s
    (if b then turn_without_posts Ended s else by_run s.board.run unix_seconds s)
shut_acts true unix_seconds s = refl
shut_acts false unix_seconds s = run_acts s.board.run unix_seconds s refl

-- ---- calls

abbrev ActsBy : KernelState → Option Incoming → Turn → Type 0
ActsBy s o t = Acts (incoming_events o) s t

other_acts : (s : KernelState) → IsOfCalls (ActsBy s) s
other_acts s = record {
  refused = λ fault. refl;
  kept = λ reply connections. refl;
  subscribed = λ n prefix unix_seconds. refl;
  requested = λ i unix_seconds. body_acts i.connection i.identity i.request unix_seconds s i.request.body;
}

pub call_acts : (c : Call) (s : KernelState) → (next s c).board ≡ after_events (call_events c s) s.board
unfolding turn
call_acts (call.Slice unix_seconds) s = shut_acts s.is_shut unix_seconds s
call_acts (call.Join channel identity) s =
    by_call (ActsBy s) s (call.Join channel identity) (other_acts s) tt
call_acts (call.Leave n) s = by_call (ActsBy s) s (call.Leave n) (other_acts s) tt
call_acts (call.Subscribe n c) s = by_call (ActsBy s) s (call.Subscribe n c) (other_acts s) tt
call_acts (call.Arrive n c) s = by_call (ActsBy s) s (call.Arrive n c) (other_acts s) tt
call_acts (call.Fetch n from) s = by_call (ActsBy s) s (call.Fetch n from) (other_acts s) tt

-- ---- lists of calls

pub after_events-append : (es es' : List Event) (b : Board)
    → after_events (es ++ es') b ≡ after_events es' (after_events es b)
after_events-append [] es' b = refl
after_events-append (e ∷ es) es' b = after_events-append es es' (board_after b (result_of e b))

pub calls_act : (calls : List Call) (s : KernelState)
    → (fold next s calls).board ≡ after_events (along call_events calls s) s.board
calls_act [] s = refl
calls_act (c ∷ calls) s =
    calls_act calls (next s c)
    ∙ (ap (after_events (along call_events calls (next s c))) (call_acts c s)
    ∙ sym (after_events-append (call_events c s) (along call_events calls (next s c)) s.board))

-- ---- the relation of events

abbrev pub reply_of : EventResult → Result Answer EventFault
reply_of (Ok (a, b)) = Ok a
reply_of (Err f) = Err f

-- the answers to events
abbrev pub replies_to : List Event → Board → List (Result Answer EventFault)
replies_to [] b = []
replies_to (e ∷ events) b = reply_of (result_of e b) ∷ replies_to events (board_after b (result_of e b))

gives_reply : (b : Board) (g : EventResult) → Gives b g (reply_of g) (board_after b g)
gives_reply b (Ok (a, b')) = (refl, refl)
gives_reply b (Err f) = (refl, refl)

pub runs_after : (events : List Event) (b : Board)
    → Runs b events (replies_to events b) (after_events events b)
runs_after [] b = refl
runs_after (e ∷ events) b =
    let g = result_of e b in
    let mid = board_after b g in
    (mid, given-applies b mid e (reply_of g) (gives_reply b g), runs_after events mid)

-- ---- events are within the bounds that `Lab::run` requires

fits_command : (c : DapCommand) → is_bounded c ≡ true → AllByRecursion Fits (command_events c)
fits_command command.Initialize is = tt
fits_command command.ConfigurationDone is = tt
fits_command command.Threads is = tt
fits_command (command.StackTrace start levels) is = tt
fits_command (command.Scopes frame) is = tt
fits_command (command.Variables reference start count) is = tt
fits_command (command.Disassemble address offset instruction_offset count) is = tt
fits_command (command.Source path) is = tt
fits_command command.DebugInfo is = tt
fits_command command.InspectVariables is = tt
fits_command (command.SetBreakpoints path lines) is = (leb-true (length lines) 256 is, tt)
fits_command _ is = (tt, tt)

fits_debug : (bounded : Bool) (c : DapCommand) → is_bounded c ≡ bounded
    → AllByRecursion Fits (if bounded then command_events c else [])
fits_debug true c is = fits_command c is
fits_debug false c is = tt

fits_body : (body : RequestBody) → AllByRecursion Fits (request_events body)
fits_body request.Interrupt = (tt, tt)
fits_body (request.Shutdown true) = (tt, tt)
fits_body (request.Shutdown false) = tt
fits_body (request.InputReply typed) = (tt, tt)
fits_body (request.Debug d) = fits_debug (is_bounded d.command) d.command refl
fits_body _ = tt

fits_incoming : (o : Option Incoming) → AllByRecursion Fits (incoming_events o)
fits_incoming None = tt
fits_incoming (Some i) = fits_body i.request.body

fits_start : (pending : Option ℕ) (queue : List Execution)
    → AllByRecursion Fits (start_events pending queue)
fits_start (Some address) queue = (tt, tt)
fits_start None [] = tt
fits_start None (x ∷ rest) = (tt, tt)

fits_run : (run : RunState) (w : Work) → AllByRecursion Fits (run_events run w)
fits_run Running w = ((lit≤ tt, lit≤ tt), tt)
fits_run Stopped w = tt
fits_run NoRun w = fits_start w.pending w.queue

fits_call : (c : Call) (s : KernelState) → All Fits (call_events c s)
fits_call (call.Slice unix_seconds) s =
    All-from_recursion Fits _ (either (AllByRecursion Fits) s.is_shut _ _ tt (fits_run s.board.run s.work))
fits_call (call.Arrive n c) s =
    All-from_recursion Fits _ (fits_incoming (incoming (call.Arrive n c) s))
fits_call (call.Join channel identity) s = All-nil Fits
fits_call (call.Leave n) s = All-nil Fits
fits_call (call.Subscribe n c) s = All-nil Fits
fits_call (call.Fetch n from) s = All-nil Fits

pub calls_fit : (calls : List Call) (s : KernelState) → All Fits (along call_events calls s)
calls_fit [] s = All-nil Fits
calls_fit (c ∷ calls) s =
    All-append Fits (call_events c s) (along call_events calls (next s c)) (fits_call c s)
    (calls_fit calls (next s c))
