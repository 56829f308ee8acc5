-- What a request does to executions, and what is posted for it.
use Rattle.std.proofs.Common.{◌≡◌, ◌∙◌, ℕ, List, [], ◌∷◌, ◌++◌, length, Bool, true, false, ◌||◌, Option, Some}
use Rattle.std.proofs.Common.{None, Ok, Err, if◌then◌else◌, refl, sym, ap, nat_lt, filter_map}
use Rattle.std.specs.Prelude.{option_to_list, codes}
use Rattle.std.specs.List.{AllByRecursion}
use Rattle.base_text.specs.Bytes.{Bytes, Text}
use Rattle.base_text.specs.Latin.{latin_bytes}
use Rattle.asm_text.specs.Statements.{statements_of}
use Rattle.lab_core.specs.declared.answer.Answer.{Answer}
use Rattle.lab_core.specs.declared.answer.Answer.TheVariants as answer
use Rattle.lab_core.specs.declared.run_state.RunState.{RunState}
use Rattle.lab_core.specs.declared.run_state.RunState.TheVariants.{NoRun, Running, Stopped}
use Rattle.lab_core.specs.Board.{Board}
use Rattle.lab_core.specs.declared.event.Event.TheVariants as event
use Rattle.lab_core.specs.Events.{EventResult, result_of, after_end, as_answer}
use Rattle.dap_talk.specs.declared.command.DapCommand.{DapCommand}
use Rattle.dap_talk.specs.declared.command.DapCommand.TheVariants as command
use Rattle.dap_talk.specs.declared.command.DapRequest.{DapRequest}
use Rattle.dap_answers.specs.declared.answer.Body.{Body}
use Rattle.dap_answers.specs.declared.answer.Body.TheVariants as body
use Rattle.dap_answers.specs.declared.answer.Event.{Event as DebugEvent}
use Rattle.dap_answers.specs.declared.answer.Outcome.TheVariants.{Success, Refused}
use Rattle.dap_board.specs.Commands.{command_result, with_body, step_request, board_with}
use Rattle.dap_answers.specs.Murmur.{cell_path}
use Rattle.dap_board.specs.Bodies.{body_of}
use Rattle.dap_board.specs.Names.{event_after, refusal_name}
use Rattle.kern_request.specs.declared.request.ExecuteRequest.{ExecuteRequest}
use Rattle.kern_request.specs.declared.request.Request.{Request}
use Rattle.kern_request.specs.declared.request.RequestBody.{RequestBody}
use Rattle.kern_request.specs.declared.request.RequestBody.TheVariants as request
use Rattle.kern_request.specs.declared.request.NeedyRequest.TheVariants as needy
use Rattle.kern_peers.specs.Connections.{Connections}
use Rattle.kern_post.specs.declared.content.Cause.{Cause}
use Rattle.kern_post.specs.declared.content.Cause.TheVariants as cause
use Rattle.kern_post.specs.declared.content.Content.{Content}
use Rattle.kern_post.specs.declared.content.Content.TheVariants as content
use Rattle.kern_post.specs.declared.content.Ending.TheVariants.{Failed}
use Rattle.kern_post.specs.declared.content.RefusedRequest.TheVariants as bad
use Rattle.kern_post.specs.declared.post.Envelope.{Envelope}
use Rattle.kern_post.specs.declared.post.Letter.{Letter}
use Rattle.kern_post.specs.Topics.{topic_of}
use Rattle.kern_exec.specs.declared.execution.Execution.{Execution}
use Rattle.kern_exec.specs.Executions.{Work, execution_of}
use Rattle.kern_exec.specs.Letters.{publication, published_under, reply_envelope, between_busy_and_idle}
use Rattle.kern_exec.specs.Boards.{board_after, is_run}
use Rattle.kern_core.specs.States.{KernelState, Turn}
use Rattle.kern_core.specs.Requests.{plain_reply, by_reply, answering, is_bounded, is_reset, performing}
use Rattle.kern_core.specs.Requests.{refusing, cut_letters, cut_work, executing, debug_reply}
use Rattle.kern_core.specs.Requests.{after_letter, full_letters, reply_to, replying, completeness_of}
use Rattle.kern_laws.specs.Events.{Incoming}
use Rattle.kern_laws.specs.Laws.{refuses, refuses_cause, type_at_once, reply_at_once, envelope_for}
use Rattle.kern_laws.specs.Laws.{due_to_request}
use Rattle.kern_laws.specs.Laws.{TypedEnvelope, typed_by, body_execution, asks_to_shut_down}
use Rattle.kern_laws.specs.Laws.{is_shutdown}
use Rattle.kern_laws.proofs.CaseLemmas.{either, either_by}
use Rattle.kern_laws.proofs.RunLemmas.{kept_command, kept_look}

-- ---- letters of the request itself

abbrev pub IsOwnContent : Content → Type 0
IsOwnContent (content.Status state) = ⊥
IsOwnContent (content.ExecuteInput code count) = ⊥
IsOwnContent (content.Stream bytes) = ⊥
IsOwnContent content.InputRequest = ⊥
IsOwnContent (content.ExecuteReply count ending) = refuses ending ≡ true
IsOwnContent _ = Unit {0}

abbrev pub envelope_by : Option Text → Connections → Incoming → Content → Envelope
envelope_by None connections i c = published_under connections i.request.header (topic_of c)
envelope_by (Some type) connections i c = envelope_for i

-- a reply to the request, or a publication with it as parent
pub record IsOwn (connections : Connections) (i : Incoming) (l : Letter) : Type 0 where
  pub content : IsOwnContent l.content
  pub envelope : l.envelope ≡ envelope_by (type_at_once l.content) connections i l.content

-- ---- what a request ends

-- the letters of the execution whose run it ends, if it ends one
abbrev pub cut_by : Option Cause → KernelState → List Letter
cut_by None s = []
cut_by (Some c) s = cut_letters c s

abbrev pub work_by : Option Cause → KernelState → Work
work_by None s = s.work
work_by (Some c) s = cut_work s

abbrev pub run_by : Option Cause → Bool → Bool
run_by None run = run
run_by (Some c) run = false

abbrev pub EndsRuns : Option Cause → Type 0
EndsRuns None = Unit {0}
EndsRuns (Some c) = refuses_cause c ≡ false

-- ---- the forms of a request's turn

abbrev prompts : Incoming → KernelState → List (Text × Envelope)
prompts i s = option_to_list (due_to_request (Some i) (length s.work.queue))

abbrev executions : Incoming → KernelState → List Execution
executions i s = body_execution (length s.work.queue) i i.request.body

-- busy, the end of the run, what is posted for the request, and idle
pub record IsExchange (s : KernelState) (i : Incoming) (t : Turn) : Type 0 where
  pub cut : Option Cause
  pub own : List Letter
  pub ends : EndsRuns cut
  pub letters : t.letters ≡ between_busy_and_idle s.connections i.request.header (cut_by cut s ++ own)
  pub work : t.state.work ≡ work_by cut s
  pub run : is_run t.state.board.run ≡ run_by cut (is_run s.board.run)
  pub posts : t.state.posts ≡ s.posts
  pub connections : t.state.connections ≡ s.connections
  pub shut : t.state.is_shut ≡ (s.is_shut || asks_to_shut_down i)
  pub owned : AllByRecursion (IsOwn s.connections i) own
  pub prompt : filter_map reply_at_once own ≡ prompts i s
  pub execution : executions i s ≡ []

abbrev pub with_executions : List Execution → Work → Work
with_executions [] w = w
with_executions (x ∷ xs) w = record w { queue = w.queue ++ x ∷ xs }

-- nothing is posted, and the executions are as before, or there is one more
pub record IsUnposted (s : KernelState) (i : Incoming) (t : Turn) : Type 0 where
  pub letters : t.letters ≡ []
  pub work : t.state.work ≡ with_executions (executions i s) s.work
  pub run : is_run t.state.board.run ≡ is_run s.board.run
  pub posts : t.state.posts ≡ s.posts
  pub connections : t.state.connections ≡ s.connections
  pub shut : t.state.is_shut ≡ (s.is_shut || asks_to_shut_down i)
  pub prompt : prompts i s ≡ []

pub data HasForm (s : KernelState) (i : Incoming) (t : Turn) : Type 0 where
  exchanged : IsExchange s i t → HasForm s i t
  unposted : IsUnposted s i t → HasForm s i t

-- ---- what is posted between busy and idle

still_shut : (b : Bool) → b ≡ (b || false)
still_shut true = refl
still_shut false = refl

now_shut : (b : Bool) → true ≡ (b || true)
now_shut true = refl
now_shut false = refl

with_own : (s : KernelState) (i : Incoming) (t : Turn) (own : List Letter)
    → t.letters ≡ between_busy_and_idle s.connections i.request.header own → t.state.work ≡ s.work
    → is_run t.state.board.run ≡ is_run s.board.run → t.state.posts ≡ s.posts
    → t.state.connections ≡ s.connections → t.state.is_shut ≡ (s.is_shut || asks_to_shut_down i)
    → AllByRecursion (IsOwn s.connections i) own
    → filter_map reply_at_once own ≡ prompts i s → executions i s ≡ [] → HasForm s i t
with_own s i t own letters work run posts connections shut owned prompt execution = exchanged (record {
  cut = None;
  own = own;
  ends = tt;
  letters = letters;
  work = work;
  run = run;
  posts = posts;
  connections = connections;
  shut = shut;
  owned = owned;
  prompt = prompt;
  execution = execution;
})

-- ---- debug requests

abbrev debug_request : DapRequest → Request → Request
debug_request d r = record r { body = request.Debug d }

owned_after : (o : Option DebugEvent) (n : ℕ) (identity : Bytes) (d : DapRequest) (r : Request)
    (s : KernelState)
    → AllByRecursion (IsOwn s.connections
    (record { connection = n; identity = identity; request = debug_request d r }))
    (option_to_list (after_letter o (debug_request d r) s))
owned_after None n identity d r s = tt
owned_after (Some e) n identity d r s = (record { content = tt; envelope = refl }, tt)

unprompted_after : (o : Option DebugEvent) (r : Request) (s : KernelState)
    → filter_map reply_at_once (option_to_list (after_letter o r s)) ≡ []
unprompted_after None r s = refl
unprompted_after (Some e) r s = refl

answered : (n : ℕ) (identity : Bytes) (d : DapRequest) (r : Request) (unix_seconds : ℕ) (s : KernelState)
    (to_body : Answer → Body) (g : EventResult)
    → is_reset d.command ≡ false → is_run (board_after s.board g).run ≡ is_run s.board.run
    → HasForm s (record { connection = n; identity = identity; request = debug_request d r })
    (answering n (debug_request d r) d unix_seconds s (with_body to_body g))
answered n identity d r unix_seconds s to_body (Ok (a, b)) other run =
    let after = after_letter (event_after d.command) (debug_request d r) s in
    let reply = debug_reply n (debug_request d r) d (Success (to_body a)) in
    exchanged (record {
      cut = None;
      own = reply ∷ option_to_list after;
      ends = tt;
      letters = ap (λ (b : Bool). between_busy_and_idle s.connections r.header
          ((if b then cut_letters cause.Reset s else []) ++ (reply ∷ option_to_list after))) other;
      work = ap (λ (b : Bool). if b then cut_work s else s.work) other;
      run = run;
      posts = refl;
      connections = refl;
      shut = still_shut s.is_shut;
      owned = (
        record { content = tt; envelope = refl },
        owned_after (event_after d.command) n identity d r
            s,
      );
      prompt = ap (λ (rest : List TypedEnvelope).
          (codes "debug_reply", reply_envelope n r.identities r.header) ∷ rest)
          (unprompted_after (event_after d.command) (debug_request d r) s);
      execution = refl;
    })
answered n identity d r unix_seconds s to_body (Err f) other run =
    with_own s _ _ (debug_reply n (debug_request d r) d (Refused (refusal_name f)) ∷ []) refl refl refl refl
    refl (still_shut s.is_shut) (record { content = tt; envelope = refl }, tt) refl refl

answered_body : (n : ℕ) (identity : Bytes) (d : DapRequest) (r : Request) (unix_seconds : ℕ)
    (s : KernelState) (b : Body)
    → is_reset d.command ≡ false
    → HasForm s (record { connection = n; identity = identity; request = debug_request d r })
    (answering n (debug_request d r) d unix_seconds s (Ok (b, s.board)))
answered_body n identity d r unix_seconds s b other =
    answered n identity d r unix_seconds s (λ a. b) (Ok (answer.Accepted, s.board)) other refl

answered_look : (n : ℕ) (identity : Bytes) (d : DapRequest) (r : Request) (unix_seconds : ℕ)
    (s : KernelState) (shown : _)
    → is_reset d.command ≡ false
    → HasForm s (record { connection = n; identity = identity; request = debug_request d r })
    (answering n (debug_request d r) d unix_seconds s (with_body body_of (as_answer shown s.board)))
answered_look n identity d r unix_seconds s shown other =
    answered n identity d r unix_seconds s body_of (as_answer shown s.board) other (kept_look shown s.board)

abbrev command_request : ℕ → DapCommand → DapRequest
command_request seq c = record { seq = seq; command = c }

command_form : (n : ℕ) (identity : Bytes) (seq : ℕ) (c : DapCommand) (r : Request) (unix_seconds : ℕ)
    (s : KernelState)
    → HasForm s
    (record { connection = n; identity = identity; request = debug_request (command_request seq c) r })
    (performing n (debug_request (command_request seq c) r) (command_request seq c) unix_seconds s)
unfolding command_result
command_form n identity seq command.BoardReset r unix_seconds s = exchanged (record {
  cut = Some cause.Reset;
  own = debug_reply n (debug_request (command_request seq command.BoardReset) r)
      (command_request seq command.BoardReset) (Success body.Empty) ∷ [];
  ends = refl;
  letters = refl;
  work = refl;
  run = refl;
  posts = refl;
  connections = refl;
  shut = still_shut s.is_shut;
  owned = (record { content = tt; envelope = refl }, tt);
  prompt = refl;
  execution = refl;
})
command_form n identity seq command.Initialize r unix_seconds s =
    answered_body n identity (command_request seq command.Initialize) r unix_seconds s body.Capabilities refl
command_form n identity seq command.ConfigurationDone r unix_seconds s =
    answered_body n identity (command_request seq command.ConfigurationDone) r unix_seconds s body.Empty refl
command_form n identity seq command.Threads r unix_seconds s =
    answered_body n identity (command_request seq command.Threads) r unix_seconds s body.Threads refl
command_form n identity seq command.Attach r unix_seconds s =
    answered n identity (command_request seq command.Attach) r unix_seconds s (λ a. body.Empty)
    (result_of event.Attach s.board) refl (kept_command command.Attach s.board refl)
command_form n identity seq command.Disconnect r unix_seconds s =
    answered n identity (command_request seq command.Disconnect) r unix_seconds s (λ a. body.Empty)
    (result_of event.Detach s.board) refl (kept_command command.Disconnect s.board refl)
command_form n identity seq (command.SetBreakpoints path lines) r unix_seconds s =
    answered n identity (command_request seq (command.SetBreakpoints path lines)) r unix_seconds s body_of
    (result_of (event.SetBreakpoints path lines) s.board) refl
    (kept_command (command.SetBreakpoints path lines) s.board refl)
command_form n identity seq command.Continue r unix_seconds s =
    answered n identity (command_request seq command.Continue) r unix_seconds s (λ a. body.Continued)
    (result_of event.Resume s.board) refl (kept_command command.Continue s.board refl)
command_form n identity seq (command.Step kind granularity) r unix_seconds s =
    answered n identity (command_request seq (command.Step kind granularity)) r unix_seconds s
    (λ a. body.Empty)
    (result_of (event.Step (step_request kind granularity)) s.board) refl
    (kept_command (command.Step kind granularity) s.board refl)
command_form n identity seq command.Pause r unix_seconds s =
    answered n identity (command_request seq command.Pause) r unix_seconds s (λ a. body.Empty)
    (result_of event.Pause s.board) refl (kept_command command.Pause s.board refl)
command_form n identity seq (command.DumpCell code) r unix_seconds s =
    answered n identity (command_request seq (command.DumpCell code)) r unix_seconds s
    (λ a. body.SourcePath (cell_path code))
    (result_of (event.Dump (cell_path code) code) s.board) refl
    (kept_command (command.DumpCell code) s.board refl)
command_form n identity seq (command.SetVariable reference name value) r unix_seconds s =
    answered n identity (command_request seq (command.SetVariable reference name value)) r unix_seconds s
    body_of
    (result_of (event.Poke reference name value) s.board) refl
    (kept_command (command.SetVariable reference name value) s.board refl)
command_form n identity seq (command.BoardSwitches value) r unix_seconds s =
    answered n identity (command_request seq (command.BoardSwitches value)) r unix_seconds s (λ a. body.Empty)
    (result_of (event.Switches value) s.board) refl (kept_command (command.BoardSwitches value) s.board refl)
command_form n identity seq (command.BoardPress vector) r unix_seconds s =
    answered n identity (command_request seq (command.BoardPress vector)) r unix_seconds s (λ a. body.Empty)
    (result_of (event.Press vector) s.board) refl (kept_command (command.BoardPress vector) s.board refl)
command_form n identity seq (command.BoardType text) r unix_seconds s =
    answered n identity (command_request seq (command.BoardType text)) r unix_seconds s (λ a. body.Empty)
    (result_of (event.Typed (latin_bytes text)) s.board) refl
    (kept_command (command.BoardType text) s.board refl)
command_form n identity seq (command.BoardAliases aliases) r unix_seconds s =
    answered n identity (command_request seq (command.BoardAliases aliases)) r unix_seconds s
    (λ a. body.Empty)
    (result_of (event.SetBoard (board_with aliases)) s.board) refl
    (kept_command (command.BoardAliases aliases) s.board refl)
command_form n identity seq (command.StackTrace start levels) r unix_seconds s = search (answered_look)
command_form n identity seq (command.Scopes frame) r unix_seconds s = search (answered_look)
command_form n identity seq (command.Variables reference start count) r unix_seconds s =
    search (answered_look)
command_form n identity seq (command.Source path) r unix_seconds s = search (answered_look)
command_form n identity seq command.InspectVariables r unix_seconds s = search (answered_look)
command_form n identity seq command.DebugInfo r unix_seconds s =
    answered_body n identity (command_request seq command.DebugInfo) r unix_seconds s _ refl
command_form n identity seq (command.Disassemble address offset instruction_offset count) r unix_seconds s =
    answered_body n identity
    (command_request seq (command.Disassemble address offset instruction_offset count)) r unix_seconds s _
    refl

debug_form : (n : ℕ) (identity : Bytes) (d : DapRequest) (r : Request) (unix_seconds : ℕ) (s : KernelState)
    (message : Text)
    → HasForm s (record { connection = n; identity = identity; request = debug_request d r })
    (if is_bounded d.command then performing n (debug_request d r) d unix_seconds s
    else refusing n (debug_request d r) d message unix_seconds s)
debug_form n identity d r unix_seconds s message =
    either (HasForm s _) (is_bounded d.command) _ _ (command_form n identity d.seq d.command r unix_seconds s)
    (with_own s _ _ (debug_reply n (debug_request d r) d (Refused message) ∷ []) refl refl refl refl refl
    (still_shut s.is_shut) (record { content = tt; envelope = refl }, tt) refl refl)

-- ---- executions

abbrev execute_request : ExecuteRequest → Request → Request
execute_request x r = record r { body = request.Execute x }

abbrev execute_incoming : ℕ → Bytes → ExecuteRequest → Request → Incoming
execute_incoming n identity x r =
    record { connection = n; identity = identity; request = execute_request x r }

owned_full : (b : Bool) (n : ℕ) (identity : Bytes) (x : ExecuteRequest) (r : Request) (s : KernelState)
    → AllByRecursion (IsOwn s.connections (execute_incoming n identity x r))
    (full_letters n (execute_request x r) b s.connections s.work.count)
owned_full true n identity x r s = (record { content = refl; envelope = refl }, tt)
owned_full false n identity x r s =
    (record { content = tt; envelope = refl }, (record { content = refl; envelope = refl }, tt))

prompt_full : (b : Bool) (n : ℕ) (identity : Bytes) (x : ExecuteRequest) (r : Request) (s : KernelState)
    → filter_map reply_at_once (full_letters n (execute_request x r) b s.connections s.work.count)
    ≡ (codes "execute_reply", envelope_for (execute_incoming n identity x r)) ∷ []
prompt_full true n identity x r s = refl
prompt_full false n identity x r s = refl

execute_form : (n : ℕ) (identity : Bytes) (x : ExecuteRequest) (r : Request) (unix_seconds : ℕ)
    (s : KernelState)
    → HasForm s (execute_incoming n identity x r)
    (executing n identity (execute_request x r) x unix_seconds s)
execute_form n identity x r unix_seconds s =
    let i = execute_incoming n identity x r in
    let e = execution_of n identity (execute_request x r) x in
    let some : Bool → List Execution = λ b. if b then e ∷ [] else [] in
    let reply : Bool → List TypedEnvelope =
    λ b. option_to_list (typed_by (if b then None else Some (codes "execute_reply")) (envelope_for i)) in
    either_by (HasForm s i) (nat_lt (length s.work.queue) 64) _ _
    (λ yes. unposted (record {
      letters = refl;
      work = sym (ap (λ (b : Bool). with_executions (some b) s.work) yes);
      run = refl;
      posts = refl;
      connections = refl;
      shut = still_shut s.is_shut;
      prompt = ap reply yes;
    }))
    (λ no. with_own s i _ (full_letters n (execute_request x r) x.is_silent s.connections s.work.count) refl
    refl refl refl refl (still_shut s.is_shut) (owned_full x.is_silent n identity x r s)
    (prompt_full x.is_silent n identity x r s ∙ sym (ap reply no)) (ap some no))

-- ---- any request

interrupted : (run : RunState) (b : Board) → b.run ≡ run
    → is_run (if is_run run then after_end b else b).run ≡ false
interrupted NoRun b is = ap is_run is
interrupted Running b is = refl
interrupted Stopped b is = refl

abbrev body_request : RequestBody → Request → Request
body_request b r = record r { body = b }

abbrev body_incoming : ℕ → Bytes → RequestBody → Request → Incoming
body_incoming n identity b r = record { connection = n; identity = identity; request = body_request b r }

replied : (n : ℕ) (identity : Bytes) (b : RequestBody) (r : Request) (unix_seconds : ℕ) (s : KernelState)
    (c : Content)
    → s.is_shut ≡ (s.is_shut || is_shutdown b)
    → IsOwn s.connections (body_incoming n identity b r) (reply_to n (body_request b r) c)
    → filter_map reply_at_once (reply_to n (body_request b r) c ∷ []) ≡ prompts (body_incoming n identity b r)
    s
    → executions (body_incoming n identity b r) s ≡ []
    → HasForm s (body_incoming n identity b r) (replying n (body_request b r) c unix_seconds s)
replied n identity b r unix_seconds s c shut own prompt execution =
    with_own s (body_incoming n identity b r) _ (reply_to n (body_request b r) c ∷ []) refl refl refl refl
    refl shut
    (own, tt) prompt execution

body_form : (n : ℕ) (identity : Bytes) (b : RequestBody) (r : Request) (unix_seconds : ℕ) (s : KernelState)
    → HasForm s (body_incoming n identity b r)
    (by_reply (plain_reply s.work.count b) n identity (body_request b r) unix_seconds s)
body_form n identity (request.Execute x) r unix_seconds s = execute_form n identity x r unix_seconds s
body_form n identity (request.Debug d) r unix_seconds s = debug_form n identity d r unix_seconds s _
body_form n identity (request.CommOpen comm_id) r unix_seconds s =
    with_own s _ _ (publication s.connections r.header (content.CommClose comm_id) ∷ []) refl refl refl refl
    refl (still_shut s.is_shut) (record { content = tt; envelope = refl }, tt) refl refl
body_form n identity request.Unknown r unix_seconds s =
    with_own s _ _ [] refl refl refl refl refl (still_shut s.is_shut) tt refl refl
body_form n identity (request.BadContent needy.CommOpen) r unix_seconds s =
    with_own s _ _ [] refl refl refl refl refl (still_shut s.is_shut) tt refl refl
body_form n identity (request.InputReply typed) r unix_seconds s =
    unposted (record {
      letters = refl;
      work = refl;
      run = refl;
      posts = refl;
      connections = refl;
      shut = still_shut s.is_shut;
      prompt = refl;
    })
body_form n identity (request.BadContent needy.InputReply) r unix_seconds s =
    unposted (record {
      letters = refl;
      work = refl;
      run = refl;
      posts = refl;
      connections = refl;
      shut = still_shut s.is_shut;
      prompt = refl;
    })
body_form n identity request.Interrupt r unix_seconds s = exchanged (record {
  cut = Some cause.Interrupted;
  own = reply_to n (body_request request.Interrupt r) content.InterruptReply ∷ [];
  ends = refl;
  letters = refl;
  work = refl;
  run = interrupted s.board.run s.board refl;
  posts = refl;
  connections = refl;
  shut = still_shut s.is_shut;
  owned = (record { content = tt; envelope = refl }, tt);
  prompt = refl;
  execution = refl;
})
body_form n identity (request.Shutdown true) r unix_seconds s = exchanged (record {
  cut = Some cause.Reset;
  own = reply_to n (body_request (request.Shutdown true) r) (content.ShutdownReply true) ∷ [];
  ends = refl;
  letters = refl;
  work = refl;
  run = refl;
  posts = refl;
  connections = refl;
  shut = now_shut s.is_shut;
  owned = (record { content = tt; envelope = refl }, tt);
  prompt = refl;
  execution = refl;
})
body_form n identity (request.Shutdown false) r unix_seconds s =
    with_own s _ _ (reply_to n (body_request (request.Shutdown false) r) (content.ShutdownReply false) ∷ [])
    refl refl refl refl refl (now_shut s.is_shut) (record { content = tt; envelope = refl }, tt) refl refl
body_form n identity request.KernelInfo r unix_seconds s =
    replied n identity request.KernelInfo r unix_seconds s content.KernelInfoReply
    (still_shut s.is_shut) (record { content = tt; envelope = refl }) refl refl
body_form n identity (request.IsComplete code) r unix_seconds s =
    replied n identity (request.IsComplete code) r unix_seconds s
    (content.IsCompleteReply (completeness_of (statements_of code)))
    (still_shut s.is_shut) (record { content = tt; envelope = refl }) refl refl
body_form n identity (request.Complete cursor_pos) r unix_seconds s =
    replied n identity (request.Complete cursor_pos) r unix_seconds s (content.CompleteReply cursor_pos)
    (still_shut s.is_shut) (record { content = tt; envelope = refl }) refl refl
body_form n identity request.Inspect r unix_seconds s =
    replied n identity request.Inspect r unix_seconds s content.InspectReply
    (still_shut s.is_shut) (record { content = tt; envelope = refl }) refl refl
body_form n identity request.History r unix_seconds s =
    replied n identity request.History r unix_seconds s content.HistoryReply
    (still_shut s.is_shut) (record { content = tt; envelope = refl }) refl refl
body_form n identity request.CommInfo r unix_seconds s =
    replied n identity request.CommInfo r unix_seconds s content.CommInfoReply
    (still_shut s.is_shut) (record { content = tt; envelope = refl }) refl refl
body_form n identity (request.BadDebug response) r unix_seconds s =
    replied n identity (request.BadDebug response) r unix_seconds s (content.DebugReply response)
    (still_shut s.is_shut) (record { content = tt; envelope = refl }) refl refl
body_form n identity (request.BadContent needy.Execute) r unix_seconds s =
    replied n identity (request.BadContent needy.Execute) r unix_seconds s
    (content.ExecuteReply s.work.count (Failed cause.BadContent))
    (still_shut s.is_shut) (record { content = refl; envelope = refl }) refl refl
body_form n identity (request.BadContent needy.IsComplete) r unix_seconds s =
    replied n identity (request.BadContent needy.IsComplete) r unix_seconds s
    (content.BadContentReply bad.IsComplete)
    (still_shut s.is_shut) (record { content = tt; envelope = refl }) refl refl
body_form n identity (request.BadContent needy.Complete) r unix_seconds s =
    replied n identity (request.BadContent needy.Complete) r unix_seconds s
    (content.BadContentReply bad.Complete)
    (still_shut s.is_shut) (record { content = tt; envelope = refl }) refl refl
body_form n identity (request.BadContent needy.Shutdown) r unix_seconds s =
    replied n identity (request.BadContent needy.Shutdown) r unix_seconds s
    (content.BadContentReply bad.Shutdown)
    (still_shut s.is_shut) (record { content = tt; envelope = refl }) refl refl

pub request_form : (i : Incoming) (unix_seconds : ℕ) (s : KernelState)
    → HasForm s i (by_reply (plain_reply s.work.count i.request.body) i.connection i.identity i.request
    unix_seconds s)
request_form i unix_seconds s = body_form i.connection i.identity i.request.body i.request unix_seconds s
