-- What posts say of stops, and what they show of the board.
use Rattle.std.proofs.Common.{◌≡◌, ◌∙◌, ℕ, List, [], ◌∷◌, ◌++◌, Bool, true, false, Option, Some, None, refl}
use Rattle.std.proofs.Common.{sym, ap, subst, filter_map, if◌then◌else◌, Result, Ok, Err, append_assoc, ◌==◌}
use Rattle.std.proofs.Common.{nat_lt, length}
use Rattle.std.specs.Prelude.{option_to_list, codes}
use Rattle.std.specs.List.{starts_with, cons_option}
use Rattle.std.proofs.lemmas.List.Elements.{filter_map-append}
use Rattle.base_text.specs.Bytes.{Bytes, Text}
use Rattle.base_text.specs.Latin.{latin_bytes}
use Rattle.i80_base.specs.declared.ports.PortOperation.{PortOperation}
use Rattle.lab_core.specs.declared.answer.Answer.{Answer}
use Rattle.lab_core.specs.declared.answer.SliceOutcome.{SliceOutcome}
use Rattle.lab_core.specs.declared.answer.SliceOutcome.TheVariants as outcome
use Rattle.lab_core.specs.declared.event.Event.{Event}
use Rattle.lab_core.specs.declared.event.Event.TheVariants as event
use Rattle.lab_core.specs.declared.fault.EventFault.{EventFault}
use Rattle.lab_core.specs.declared.run_state.RunState.{RunState}
use Rattle.lab_core.specs.declared.run_state.RunState.TheVariants.{NoRun, Running, Stopped}
use Rattle.lab_core.specs.Board.{Board}
use Rattle.lab_core.specs.Events.{EventResult, result_of, while_running}
use Rattle.lab_core.specs.SliceEnds.{slice_end, sliced_at}
use Rattle.lab_core.specs.Slices.{traffic_of}
use Rattle.dap_talk.specs.declared.command.DapCommand.{DapCommand}
use Rattle.dap_talk.specs.declared.command.DapCommand.TheVariants as command
use Rattle.dap_talk.specs.declared.command.DapRequest.{DapRequest}
use Rattle.dap_answers.specs.declared.answer.Body.{Body}
use Rattle.dap_answers.specs.declared.answer.Body.TheVariants as body
use Rattle.dap_answers.specs.declared.answer.Event.{Event as DebugEvent}
use Rattle.dap_answers.specs.declared.answer.Outcome.TheVariants.{Success}
use Rattle.dap_answers.specs.declared.answer.StopReason.{StopReason}
use Rattle.dap_answers.specs.Murmur.{cell_path}
use Rattle.dap_board.specs.Bodies.{body_of}
use Rattle.dap_board.specs.Commands.{command_result, with_body, step_request, board_with}
use Rattle.dap_board.specs.Names.{event_after}
use Rattle.kern_request.specs.declared.request.Request.{Request}
use Rattle.kern_request.specs.declared.request.RequestBody.{RequestBody}
use Rattle.kern_request.specs.declared.request.RequestBody.TheVariants as request
use Rattle.kern_request.specs.declared.request.NeedyRequest.TheVariants as needy
use Rattle.kern_peers.specs.Connections.{Connections}
use Rattle.kern_post.specs.declared.content.Cause.{Cause}
use Rattle.kern_post.specs.declared.content.Cause.TheVariants as cause
use Rattle.kern_post.specs.declared.content.Content.TheVariants as content
use Rattle.kern_post.specs.declared.content.Ending.{Ending}
use Rattle.kern_post.specs.declared.content.Ending.TheVariants.{Failed}
use Rattle.kern_post.specs.declared.post.Envelope.{Envelope}
use Rattle.kern_post.specs.declared.post.Letter.{Letter}
use Rattle.kern_exec.specs.declared.execution.Execution.{Execution}
use Rattle.kern_exec.specs.declared.execution.Current.{Current}
use Rattle.kern_exec.specs.declared.loading.Loading.{Loading}
use Rattle.kern_exec.specs.declared.loading.Loading.TheVariants.{Starts, Ends}
use Rattle.kern_exec.specs.Executions.{current_of}
use Rattle.kern_exec.specs.Boards.{is_run, board_after, cell_given, loading_of}
use Rattle.kern_exec.specs.Letters.{between_busy_and_idle}
use Rattle.kern_exec.specs.Ends.{ending_of, cut_letters as letters_of_cut, end_letters, end_of_loading}
use Rattle.kern_exec.specs.Ends.{outcome_letters}
use Rattle.kern_calls.specs.declared.call.Call.{Call}
use Rattle.kern_calls.specs.declared.call.Call.TheVariants as call
use Rattle.kern_calls.specs.declared.call.Reply.TheVariants.{Ended}
use Rattle.kern_core.specs.States.{KernelState, Turn, turn_without_posts}
use Rattle.kern_core.specs.Connections.{status_to, first_status}
use Rattle.kern_core.specs.Requests.{plain_reply, by_reply, answering, performing, refusing, is_bounded}
use Rattle.kern_core.specs.Requests.{is_reset, cut_of, cut_letters, after_letter, debug_reply, full_letters}
use Rattle.kern_core.specs.Slices.{letters_of as slice_letters_of, loading, by_start, by_run}
use Rattle.kern_core.specs.Turns.{turn, next}
use Rattle.kern_laws.specs.Events.{Incoming, command_events, request_events, incoming_events}
use Rattle.kern_laws.specs.Events.{load_events, start_events, run_events, call_events, along, stop_by}
use Rattle.kern_laws.specs.Events.{event_stop, of_answers, outcome_stop, debug_stop, stop_in, view_in}
use Rattle.kern_laws.specs.Events.{outcome_view}
use Rattle.kern_laws.specs.Events.{result_view, request_view, incoming_view, call_views}
use Rattle.kern_laws.proofs.CaseLemmas.{either, IsOfCalls, by_call}
use Rattle.kern_laws.proofs.BoardLemmas.{after_events, replies_to, reply_of, call_acts}
use Rattle.kern_laws.proofs.PieceLemmas.{PassesOver, found_between, found_at_end, found_in_slice}
use Rattle.kern_laws.proofs.PieceLemmas.{found_in_loading}
use Rattle.kern_laws.proofs.InvariantLemmas.{IsConsistent, IsUnderWay}
use Rattle.kern_laws.proofs.HistoryLemmas.{call_letters}

-- ---- what says nothing of the board

-- f finds nothing in a reply of an execution, nor in an execute_input
record IsOfBoard {A : Type 0} (f : Letter → Option A) : Type 0 where
  pub passes : PassesOver f
  pub end : (connections : Connections) (c : Current) (ending : Ending)
      → filter_map f (end_letters connections c ending) ≡ []
  pub input : (e : Envelope) (code : Text) (count : ℕ)
      → f (record { envelope = e; content = content.ExecuteInput code count }) ≡ None

of_stops : IsOfBoard stop_in
of_stops =
    let passes : PassesOver stop_in = record {
      status = λ e state. refl;
      stream = λ e bytes. refl;
      request = λ e. refl;
      error = λ e c. refl;
    } in
    record {
      passes = passes;
      end = found_at_end stop_in passes;
      input = λ e code count. refl;
    }

of_views : IsOfBoard view_in
of_views =
    let passes : PassesOver view_in = record {
      status = λ e state. refl;
      stream = λ e bytes. refl;
      request = λ e. refl;
      error = λ e c. refl;
    } in
    record {
      passes = passes;
      end = found_at_end view_in passes;
      input = λ e code count. refl;
    }

none_of_cut : {A : Type 0} (f : Letter → Option A) (is : IsOfBoard f) (o : Option Current)
    (connections : Connections) (c : Cause)
    → filter_map f (letters_of_cut connections o c) ≡ []
none_of_cut f is None connections c = refl
none_of_cut f is (Some k) connections c = is.end connections k (Failed c)

none_of_loaded : {A : Type 0} (f : Letter → Option A) (is : IsOfBoard f) (l : Loading)
    (connections : Connections) (c : Current)
    → filter_map f (end_of_loading connections c l) ≡ []
none_of_loaded f is (Starts address) connections c = refl
none_of_loaded f is (Ends ending) connections c = is.end connections c ending

none_of_loading : {A : Type 0} (f : Letter → Option A) (is : IsOfBoard f) (queue : List Execution)
    (unix_seconds : ℕ) (s : KernelState)
    → filter_map f (loading unix_seconds queue s).letters ≡ []
none_of_loading f is [] unix_seconds s = refl
none_of_loading f is (x ∷ rest) unix_seconds s =
    let c = current_of x s.work.count in
    let l = loading_of (cell_given x.request.code s.board) in
    found_in_loading f is.passes s.connections c l
    ∙ (ap (λ found. found ++ filter_map f (end_of_loading s.connections c l))
    (either (λ letters. filter_map f letters ≡ []) x.request.is_silent _ _ refl
    (ap (λ o. cons_option o []) (is.input _ x.request.code c.count)))
    ∙ none_of_loaded f is l s.connections c)

none_of_first : {A : Type 0} (f : Letter → Option A) (is : IsOfBoard f) (n : ℕ) (prefix : Bytes)
    (s : KernelState)
    → filter_map f (first_status n prefix s) ≡ []
none_of_first f is n prefix s =
    either (λ letters. filter_map f letters ≡ []) (starts_with (λ x y. x == y) (codes "status") prefix)
    (status_to n s ∷ []) [] (ap (λ o. cons_option o []) (is.passes.status _ _)) refl

-- a request that ends the run says nothing of the board but by what it adds
found_after_cut : {A : Type 0} (f : Letter
    → Option A) (is : IsOfBoard f) (parent : Bytes) (o : Option Current)
    (connections : Connections) (c : Cause) (own : List Letter)
    → filter_map f (between_busy_and_idle connections parent (letters_of_cut connections o c ++ own))
    ≡ filter_map f own
found_after_cut f is parent o connections c own =
    found_between f is.passes connections parent (letters_of_cut connections o c ++ own)
    ∙ (filter_map-append f (letters_of_cut connections o c) own
    ∙ ap (λ found. found ++ filter_map f own) (none_of_cut f is o connections c))

-- the same, if it ends the run only where b is true
found_after : {A : Type 0} (f : Letter → Option A) (is : IsOfBoard f) (b : Bool) (parent : Bytes)
    (c : Cause) (own : List Letter) (s : KernelState)
    → filter_map f (between_busy_and_idle s.connections parent
    ((if b then cut_letters c s else []) ++ own)) ≡ filter_map f own
found_after f is true parent c own s = found_after_cut f is parent (cut_of s) s.connections c own
found_after f is false parent c own s = found_between f is.passes s.connections parent own

-- ---- stops

-- the stops that events report
abbrev Stops : List Event → Board → List StopReason
Stops events b = of_answers event_stop events (replies_to events b)

abbrev TellsStops : List Event → KernelState → Turn → Type 0
TellsStops events s t = filter_map stop_in t.letters ≡ Stops events s.board

-- an event that never stops the run
no_stop : (e : Event) (g : EventResult) → ((a : Answer) → stop_by e a ≡ None)
    → option_to_list (event_stop e (reply_of g)) ++ [] ≡ []
no_stop e (Ok (a, b)) never = ap (λ o. option_to_list o ++ []) (never a)
no_stop e (Err f) never = refl

abbrev event_stops : Option DebugEvent → Option StopReason
event_stops None = None
event_stops (Some e) = debug_stop e

stops_after : (o : Option DebugEvent) (r : Request) (s : KernelState)
    → filter_map stop_in (option_to_list (after_letter o r s)) ≡ option_to_list (event_stops o)
stops_after None r s = refl
stops_after (Some e) r s = cons_as_list (debug_stop e)
  where
    cons_as_list : (o : Option StopReason) → cons_option o [] ≡ option_to_list o
    cons_as_list None = refl
    cons_as_list (Some x) = refl

append-none : (o : Option StopReason) → option_to_list o ≡ option_to_list o ++ []
append-none None = refl
append-none (Some x) = refl

-- a command tells of a stop if its event stopped the run
answered_stops : (n : ℕ) (r : Request) (d : DapRequest) (unix_seconds : ℕ) (s : KernelState)
    (to_body : Answer → Body) (e : Event) (g : EventResult)
    → ((a : Answer) → event_stops (event_after d.command) ≡ stop_by e a)
    → filter_map stop_in (answering n r d unix_seconds s (with_body to_body g)).letters
    ≡ option_to_list (event_stop e (reply_of g)) ++ []
answered_stops n r d unix_seconds s to_body e (Ok (a, b)) same =
    let o = event_after d.command in
    found_after stop_in of_stops (is_reset d.command) r.header cause.Reset
    (debug_reply n r d (Success (to_body a)) ∷ option_to_list (after_letter o r s)) s
    ∙ (stops_after o r s ∙ (append-none (event_stops o) ∙ ap (λ x. option_to_list x ++ []) (same a)))
answered_stops n r d unix_seconds s to_body e (Err f) same = refl

-- a command without an event tells of none
unstopped : (n : ℕ) (r : Request) (d : DapRequest) (unix_seconds : ℕ) (s : KernelState)
    (g : Result (Body × Board) EventFault)
    → event_stops (event_after d.command) ≡ None
    → filter_map stop_in (answering n r d unix_seconds s g).letters ≡ []
unstopped n r d unix_seconds s (Ok (b, board)) none =
    let o = event_after d.command in
    found_after stop_in of_stops (is_reset d.command) r.header cause.Reset
    (debug_reply n r d (Success b) ∷ option_to_list (after_letter o r s)) s
    ∙ (stops_after o r s ∙ ap option_to_list none)
unstopped n r d unix_seconds s (Err f) none = refl

abbrev command_request : ℕ → DapCommand → DapRequest
command_request seq c = record { seq = seq; command = c }

command_stops : (n : ℕ) (r : Request) (seq : ℕ) (c : DapCommand) (unix_seconds : ℕ) (s : KernelState)
    → TellsStops (command_events c) s (performing n r (command_request seq c) unix_seconds s)
unfolding command_result
command_stops n r seq command.Attach unix_seconds s =
    answered_stops n r (command_request seq command.Attach) unix_seconds s (λ a. body.Empty) event.Attach
    (result_of event.Attach s.board) (λ a. refl)
command_stops n r seq command.Disconnect unix_seconds s =
    answered_stops n r (command_request seq command.Disconnect) unix_seconds s (λ a. body.Empty) event.Detach
    (result_of event.Detach s.board) (λ a. refl)
command_stops n r seq (command.SetBreakpoints path lines) unix_seconds s =
    answered_stops n r (command_request seq (command.SetBreakpoints path lines)) unix_seconds s body_of
    (event.SetBreakpoints path lines)
    (result_of (event.SetBreakpoints path lines) s.board) (λ a. refl)
command_stops n r seq command.Continue unix_seconds s =
    answered_stops n r (command_request seq command.Continue) unix_seconds s (λ a. body.Continued)
    event.Resume
    (result_of event.Resume s.board) (λ a. refl)
command_stops n r seq (command.Step kind granularity) unix_seconds s =
    answered_stops n r (command_request seq (command.Step kind granularity)) unix_seconds s (λ a. body.Empty)
    (event.Step (step_request kind granularity))
    (result_of (event.Step (step_request kind granularity)) s.board) (λ a. refl)
command_stops n r seq command.Pause unix_seconds s =
    answered_stops n r (command_request seq command.Pause) unix_seconds s (λ a. body.Empty) event.Pause
    (result_of event.Pause s.board) (λ a. refl)
command_stops n r seq (command.DumpCell code) unix_seconds s =
    answered_stops n r (command_request seq (command.DumpCell code)) unix_seconds s
    (λ a. body.SourcePath (cell_path code)) (event.Dump (cell_path code) code)
    (result_of (event.Dump (cell_path code) code) s.board) (λ a. refl)
command_stops n r seq (command.SetVariable reference name value) unix_seconds s =
    answered_stops n r (command_request seq (command.SetVariable reference name value)) unix_seconds s
    body_of (event.Poke reference name value)
    (result_of (event.Poke reference name value) s.board) (λ a. refl)
command_stops n r seq (command.BoardSwitches value) unix_seconds s =
    answered_stops n r (command_request seq (command.BoardSwitches value)) unix_seconds s (λ a. body.Empty)
    (event.Switches value)
    (result_of (event.Switches value) s.board) (λ a. refl)
command_stops n r seq (command.BoardPress vector) unix_seconds s =
    answered_stops n r (command_request seq (command.BoardPress vector)) unix_seconds s (λ a. body.Empty)
    (event.Press vector)
    (result_of (event.Press vector) s.board) (λ a. refl)
command_stops n r seq (command.BoardType text) unix_seconds s =
    answered_stops n r (command_request seq (command.BoardType text)) unix_seconds s (λ a. body.Empty)
    (event.Typed (latin_bytes text))
    (result_of (event.Typed (latin_bytes text)) s.board) (λ a. refl)
command_stops n r seq command.BoardReset unix_seconds s =
    answered_stops n r (command_request seq command.BoardReset) unix_seconds s (λ a. body.Empty) event.Reset
    (result_of event.Reset s.board) (λ a. refl)
command_stops n r seq (command.BoardAliases aliases) unix_seconds s =
    answered_stops n r (command_request seq (command.BoardAliases aliases)) unix_seconds s (λ a. body.Empty)
    (event.SetBoard (board_with aliases))
    (result_of (event.SetBoard (board_with aliases)) s.board) (λ a. refl)
command_stops n r seq c unix_seconds s =
    unstopped n r (command_request seq c) unix_seconds s (command_result c s.board) refl

debug_stops : (n : ℕ) (r : Request) (d : DapRequest) (unix_seconds : ℕ) (s : KernelState) (b : Bool)
    (message : List ℕ)
    → TellsStops (if b then command_events d.command else []) s
    (if b then performing n r d unix_seconds s else refusing n r d message unix_seconds s)
debug_stops n r d unix_seconds s true message = command_stops n r d.seq d.command unix_seconds s
debug_stops n r d unix_seconds s false message = refl

abbrev request_of : RequestBody → Request → Request
request_of b r = record r { body = b }

full_stops : (is_silent : Bool) (n : ℕ) (r : Request) (s : KernelState)
    → filter_map stop_in (full_letters n r is_silent s.connections s.work.count) ≡ []
full_stops true n r s = refl
full_stops false n r s = refl

body_stops : (n : ℕ) (identity : Bytes) (r : Request) (unix_seconds : ℕ) (s : KernelState) (b : RequestBody)
    → TellsStops (request_events b) s
    (by_reply (plain_reply s.work.count b) n identity (request_of b r) unix_seconds s)
body_stops n identity r unix_seconds s (request.Execute x) =
    either (λ (t : Turn). filter_map stop_in t.letters ≡ []) (nat_lt (length s.work.queue) 64) _ _ refl
    (found_between stop_in of_stops.passes s.connections r.header
    (full_letters n (request_of (request.Execute x) r) x.is_silent s.connections s.work.count)
    ∙ full_stops x.is_silent n (request_of (request.Execute x) r) s)
body_stops n identity r unix_seconds s (request.Shutdown true) =
    found_after_cut stop_in of_stops r.header (cut_of s) s.connections cause.Reset _
body_stops n identity r unix_seconds s (request.Shutdown false) = refl
body_stops n identity r unix_seconds s request.Interrupt =
    found_after_cut stop_in of_stops r.header (cut_of s) s.connections cause.Interrupted _
    ∙ sym (no_stop event.Interrupt (result_of event.Interrupt s.board) (λ a. refl))
body_stops n identity r unix_seconds s (request.Debug d) =
    debug_stops n (request_of (request.Debug d) r) d unix_seconds s (is_bounded d.command) _
body_stops n identity r unix_seconds s (request.BadContent needy.Execute) = refl
body_stops n identity r unix_seconds s (request.BadContent needy.IsComplete) = refl
body_stops n identity r unix_seconds s (request.BadContent needy.Complete) = refl
body_stops n identity r unix_seconds s (request.BadContent needy.CommOpen) = refl
body_stops n identity r unix_seconds s (request.BadContent needy.Shutdown) = refl
body_stops n identity r unix_seconds s (request.BadContent needy.InputReply) = refl
body_stops n identity r unix_seconds s _ = refl

-- ---- stops in slices

outcome_stops : (e : SliceOutcome) (connections : Connections) (c : Current)
    → filter_map stop_in (outcome_letters connections c e) ≡ option_to_list (outcome_stop e) ++ []
outcome_stops outcome.More connections c = refl
outcome_stops outcome.Waiting connections c = refl
outcome_stops (outcome.Stop s) connections c = refl
outcome_stops (outcome.End e) connections c = of_stops.end connections c (ending_of e)

sliced_stops : (o : Option Current) (pending : Option ℕ) (run : RunState) (s : KernelState)
    → run ≡ Running → IsUnderWay true o pending
    → filter_map stop_in (slice_letters_of s.connections o (traffic_of (slice_end s.board).0 s.board)
    (slice_end s.board).1)
    ≡ option_to_list (event_stop (event.Slice 4096)
    (reply_of (while_running run (Ok (sliced_at s.board (slice_end s.board)))))) ++ []
sliced_stops (Some c) pending Running s is under =
    let end = slice_end s.board in
    found_in_slice stop_in of_stops.passes s.connections c (traffic_of end.0 s.board) end.1
    ∙ outcome_stops end.1 s.connections c
sliced_stops (Some c) pending NoRun s is under = absurd cc
sliced_stops (Some c) pending Stopped s is under = absurd cc
sliced_stops None None run s is under = absurd under
sliced_stops None (Some address) run s is under = absurd under

loading_stops : (queue : List Execution) (unix_seconds : ℕ) (s : KernelState)
    → TellsStops (load_events queue) s (loading unix_seconds queue s)
loading_stops [] unix_seconds s = refl
loading_stops (x ∷ rest) unix_seconds s =
    let e = event.Load (cell_path x.request.code) x.request.code in
    none_of_loading stop_in of_stops (x ∷ rest) unix_seconds s
    ∙ sym (no_stop e (result_of e s.board) (λ a. refl))

start_stops : (pending : Option ℕ) (unix_seconds : ℕ) (s : KernelState)
    → TellsStops (start_events pending s.work.queue) s (by_start pending unix_seconds s)
start_stops None unix_seconds s = loading_stops s.work.queue unix_seconds s
start_stops (Some address) unix_seconds s =
    sym (no_stop (event.Start address) (result_of (event.Start address) s.board) (λ a. refl))

run_stops : (run : RunState) (unix_seconds : ℕ) (s : KernelState) → s.board.run ≡ run → IsConsistent s
    → TellsStops (run_events run s.work) s (by_run run unix_seconds s)
run_stops Running unix_seconds s is h =
    sliced_stops s.work.current s.work.pending s.board.run s is
    (subst (λ (r : Bool). IsUnderWay r s.work.current s.work.pending) (ap is_run is) h)
run_stops Stopped unix_seconds s is h = refl
run_stops NoRun unix_seconds s is h = start_stops s.work.pending unix_seconds s

shut_stops : (b : Bool) (unix_seconds : ℕ) (s : KernelState) → IsConsistent s
    → TellsStops (if b then [] else run_events s.board.run s.work) s
    (if b then turn_without_posts Ended s else by_run s.board.run unix_seconds s)
shut_stops true unix_seconds s h = refl
shut_stops false unix_seconds s h = run_stops s.board.run unix_seconds s refl h

abbrev TellsStopsBy : KernelState → Option Incoming → Turn → Type 0
TellsStopsBy s o t = TellsStops (incoming_events o) s t

other_stops : (s : KernelState) → IsOfCalls (TellsStopsBy s) s
other_stops s = record {
  refused = λ fault. refl;
  kept = λ reply connections. refl;
  subscribed = λ n prefix unix_seconds. none_of_first stop_in of_stops n prefix s;
  requested = λ i unix_seconds. body_stops i.connection i.identity i.request unix_seconds s i.request.body;
}

-- the stops that a call reports
abbrev pub call_stops : Call → KernelState → List StopReason
call_stops c s = Stops (call_events c s) s.board

pub call_tells_stops : (c : Call) (s : KernelState) → IsConsistent s
    → filter_map stop_in (call_letters c s) ≡ call_stops c s
unfolding turn
call_tells_stops (call.Slice unix_seconds) s h = shut_stops s.is_shut unix_seconds s h
call_tells_stops (call.Join channel identity) s h =
    by_call (TellsStopsBy s) s (call.Join channel identity) (other_stops s) tt
call_tells_stops (call.Leave n) s h = by_call (TellsStopsBy s) s (call.Leave n) (other_stops s) tt
call_tells_stops (call.Subscribe n c) s h = by_call (TellsStopsBy s) s (call.Subscribe n c) (other_stops s) tt
call_tells_stops (call.Arrive n c) s h = by_call (TellsStopsBy s) s (call.Arrive n c) (other_stops s) tt
call_tells_stops (call.Fetch n from) s h = by_call (TellsStopsBy s) s (call.Fetch n from) (other_stops s) tt

Stops-append : (es es' : List Event) (b : Board)
    → Stops (es ++ es') b ≡ Stops es b ++ Stops es' (after_events es b)
Stops-append [] es' b = refl
Stops-append (e ∷ es) es' b =
    let r = result_of e b in
    let b' = board_after b r in
    let first = option_to_list (event_stop e (reply_of r)) in
    ap (λ rest. first ++ rest) (Stops-append es es' b')
    ∙ sym (append_assoc first (Stops es b') (Stops es' (after_events es b')))

-- those of all calls are those of all their events
pub stops_along : (calls : List Call) (s : KernelState)
    → along call_stops calls s ≡ Stops (along call_events calls s) s.board
stops_along [] s = refl
stops_along (c ∷ calls) s =
    let rest = along call_events calls (next s c) in
    ap (λ found. call_stops c s ++ found)
    (stops_along calls (next s c) ∙ ap (λ b. Stops rest b) (call_acts c s))
    ∙ sym (Stops-append (call_events c s) rest s.board)

-- ---- views

abbrev ShowsBy : KernelState → Option Incoming → Turn → Type 0
ShowsBy s o t = filter_map view_in t.letters ≡ option_to_list (incoming_view o s.board)

as_list : (o : Option Body) → cons_option o [] ≡ option_to_list o
as_list None = refl
as_list (Some b) = refl

views_after : (o : Option DebugEvent) (r : Request) (s : KernelState)
    → filter_map view_in (option_to_list (after_letter o r s)) ≡ []
views_after None r s = refl
views_after (Some e) r s = refl

answered_views : (n : ℕ) (r : Request) (d : DapRequest) (unix_seconds : ℕ) (s : KernelState)
    (g : Result (Body × Board) EventFault)
    → filter_map view_in (answering n r d unix_seconds s g).letters ≡ option_to_list (result_view g)
answered_views n r d unix_seconds s (Ok (b, board)) =
    let o = event_after d.command in
    found_after view_in of_views (is_reset d.command) r.header cause.Reset
    (debug_reply n r d (Success b) ∷ option_to_list (after_letter o r s)) s
    ∙ (ap (λ rest. cons_option (outcome_view (Success b)) rest) (views_after o r s)
    ∙ as_list (outcome_view (Success b)))
answered_views n r d unix_seconds s (Err f) = refl

debug_views : (n : ℕ) (r : Request) (d : DapRequest) (unix_seconds : ℕ) (s : KernelState) (b : Bool)
    (message : List ℕ)
    → filter_map view_in
    (if b then performing n r d unix_seconds s else refusing n r d message unix_seconds s).letters
    ≡ option_to_list (if b then result_view (command_result d.command s.board) else None)
debug_views n r d unix_seconds s true message =
    answered_views n r d unix_seconds s (command_result d.command s.board)
debug_views n r d unix_seconds s false message = refl

full_views : (is_silent : Bool) (n : ℕ) (r : Request) (s : KernelState)
    → filter_map view_in (full_letters n r is_silent s.connections s.work.count) ≡ []
full_views true n r s = refl
full_views false n r s = refl

body_views : (n : ℕ) (identity : Bytes) (r : Request) (unix_seconds : ℕ) (s : KernelState) (b : RequestBody)
    → filter_map view_in (by_reply (plain_reply s.work.count b) n identity (request_of b r) unix_seconds
    s).letters ≡ option_to_list (request_view b s.board)
body_views n identity r unix_seconds s (request.Execute x) =
    either (λ (t : Turn). filter_map view_in t.letters ≡ []) (nat_lt (length s.work.queue) 64) _ _ refl
    (found_between view_in of_views.passes s.connections r.header
    (full_letters n (request_of (request.Execute x) r) x.is_silent s.connections s.work.count)
    ∙ full_views x.is_silent n (request_of (request.Execute x) r) s)
body_views n identity r unix_seconds s (request.Shutdown true) =
    found_after_cut view_in of_views r.header (cut_of s) s.connections cause.Reset _
body_views n identity r unix_seconds s (request.Shutdown false) = refl
body_views n identity r unix_seconds s request.Interrupt =
    found_after_cut view_in of_views r.header (cut_of s) s.connections cause.Interrupted _
body_views n identity r unix_seconds s (request.Debug d) =
    debug_views n (request_of (request.Debug d) r) d unix_seconds s (is_bounded d.command) _
body_views n identity r unix_seconds s (request.BadDebug response) = as_list (outcome_view response.outcome)
body_views n identity r unix_seconds s (request.BadContent needy.Execute) = refl
body_views n identity r unix_seconds s (request.BadContent needy.IsComplete) = refl
body_views n identity r unix_seconds s (request.BadContent needy.Complete) = refl
body_views n identity r unix_seconds s (request.BadContent needy.CommOpen) = refl
body_views n identity r unix_seconds s (request.BadContent needy.Shutdown) = refl
body_views n identity r unix_seconds s (request.BadContent needy.InputReply) = refl
body_views n identity r unix_seconds s _ = refl

outcome_views : (e : SliceOutcome) (connections : Connections) (c : Current)
    → filter_map view_in (outcome_letters connections c e) ≡ []
outcome_views outcome.More connections c = refl
outcome_views outcome.Waiting connections c = refl
outcome_views (outcome.Stop s) connections c = refl
outcome_views (outcome.End e) connections c = of_views.end connections c (ending_of e)

sliced_views : (o : Option Current) (connections : Connections) (traffic : List PortOperation)
    (e : SliceOutcome)
    → filter_map view_in (slice_letters_of connections o traffic e) ≡ []
sliced_views None connections traffic e = refl
sliced_views (Some c) connections traffic e =
    found_in_slice view_in of_views.passes connections c traffic e ∙ outcome_views e connections c

abbrev ShowsNone : Turn → Type 0
ShowsNone t = filter_map view_in t.letters ≡ []

start_views : (pending : Option ℕ) (unix_seconds : ℕ) (s : KernelState)
    → ShowsNone (by_start pending unix_seconds s)
start_views None unix_seconds s = none_of_loading view_in of_views s.work.queue unix_seconds s
start_views (Some address) unix_seconds s = refl

run_views : (run : RunState) (unix_seconds : ℕ) (s : KernelState) → ShowsNone (by_run run unix_seconds s)
run_views Running unix_seconds s =
    let end = slice_end s.board in
    sliced_views s.work.current s.connections (traffic_of end.0 s.board) end.1
run_views Stopped unix_seconds s = refl
run_views NoRun unix_seconds s = start_views s.work.pending unix_seconds s

other_views : (s : KernelState) → IsOfCalls (ShowsBy s) s
other_views s = record {
  refused = λ fault. refl;
  kept = λ reply connections. refl;
  subscribed = λ n prefix unix_seconds. none_of_first view_in of_views n prefix s;
  requested = λ i unix_seconds. body_views i.connection i.identity i.request unix_seconds s i.request.body;
}

pub call_shows : (c : Call) (s : KernelState) → filter_map view_in (call_letters c s) ≡ call_views c s
unfolding turn
call_shows (call.Slice unix_seconds) s =
    either ShowsNone s.is_shut _ _ refl (run_views s.board.run unix_seconds s)
call_shows (call.Join channel identity) s =
    by_call (ShowsBy s) s (call.Join channel identity) (other_views s) tt
call_shows (call.Leave n) s = by_call (ShowsBy s) s (call.Leave n) (other_views s) tt
call_shows (call.Subscribe n c) s = by_call (ShowsBy s) s (call.Subscribe n c) (other_views s) tt
call_shows (call.Arrive n c) s = by_call (ShowsBy s) s (call.Arrive n c) (other_views s) tt
call_shows (call.Fetch n from) s = by_call (ShowsBy s) s (call.Fetch n from) (other_views s) tt
