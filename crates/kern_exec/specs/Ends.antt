-- What an execution posts: when it is loaded, for each slice of its run, and when it ends.
use Rattle.std.specs.Prelude.{ℕ, ◌==◌, List, [], ◌∷◌, ◌++◌, Bool, true, false, Option, Some, None}
use Rattle.std.specs.Prelude.{if◌then◌else◌}
use Rattle.std.specs.List.{filter_map, list_any}
use Rattle.base_text.specs.Bytes.{Bytes}
use Rattle.i80_base.specs.declared.ports.PortOperation.{PortOperation}
use Rattle.lab_core.specs.declared.answer.SliceOutcome.{SliceOutcome}
use Rattle.lab_core.specs.declared.answer.SliceOutcome.TheVariants as outcome
use Rattle.lab_core.specs.declared.answer.End.{End}
use Rattle.lab_core.specs.declared.answer.End.TheVariants as end
use Rattle.i80_devs.specs.Console.{written_to_console, wants_line}
use Rattle.dap_board.specs.Names.{reason_of}
use Rattle.dap_answers.specs.declared.answer.Event.TheVariants.{Stopped}
use Rattle.kern_post.specs.declared.content.Content.TheVariants as content
use Rattle.kern_post.specs.declared.content.ExecutionState.TheVariants.{Busy, Idle}
use Rattle.kern_post.specs.declared.content.Ending.{Ending}
use Rattle.kern_post.specs.declared.content.Ending.TheVariants.{Done, Failed}
use Rattle.kern_post.specs.declared.content.Cause.{Cause}
use Rattle.kern_post.specs.declared.content.Cause.TheVariants.{UndefinedOpcode}
use Rattle.kern_post.specs.declared.post.Envelope.{Envelope}
use Rattle.kern_post.specs.declared.post.Letter.{Letter}
use Rattle.kern_peers.specs.Connections.{Connections, stdin_of}
use Rattle.kern_exec.specs.declared.execution.Current.{Current}
use Rattle.kern_exec.specs.declared.loading.Loading.{Loading}
use Rattle.kern_exec.specs.declared.loading.Loading.TheVariants.{Starts, Ends}
use Rattle.kern_exec.specs.Letters.{publication, reply_envelope, reply_letter}

-- ---- the end

-- if the execution isn't silent and failed
abbrev pub error_letters : Bool → Connections → Bytes → Ending → List Letter
error_letters true connections parent ending = []
error_letters false connections parent Done = []
error_letters false connections parent (Failed cause) =
    publication connections parent (content.Error cause) ∷ []

abbrev pub end_letters : Connections → Current → Ending → List Letter
end_letters connections c ending =
    error_letters c.execution.request.is_silent connections c.execution.header ending ++
    reply_letter c.execution.connection c.execution.identities c.execution.header
    (content.ExecuteReply c.count ending) ∷
    publication connections c.execution.header (content.Status Idle) ∷ []

-- the letters for a run that a request ends, if there is one
abbrev pub cut_letters : Connections → Option Current → Cause → List Letter
cut_letters connections None cause = []
cut_letters connections (Some c) cause = end_letters connections c (Failed cause)

-- ---- the beginning

abbrev pub input_letters : Connections → Current → List Letter
input_letters connections c =
    if c.execution.request.is_silent then [] else
    publication connections c.execution.header (content.ExecuteInput c.execution.request.code c.count) ∷ []

-- the execution of a cell that names no start, or can't be loaded, ends at once
abbrev pub end_of_loading : Connections → Current → Loading → List Letter
end_of_loading connections c (Starts address) = []
end_of_loading connections c (Ends ending) = end_letters connections c ending

abbrev pub loading_letters : Connections → Current → Loading → List Letter
loading_letters connections c loading =
    publication connections c.execution.header (content.Status Busy) ∷
    (input_letters connections c ++ end_of_loading connections c loading)

-- ---- a slice of the run

abbrev pub stream_letters : Connections → Current → Bytes → List Letter
stream_letters connections c [] = []
stream_letters connections c (byte ∷ bytes) =
    if c.execution.request.is_silent then [] else
    publication connections c.execution.header (content.Stream (byte ∷ bytes)) ∷ []

abbrev pub to_stdin : Option ℕ → Current → Option Envelope
to_stdin None c = None
to_stdin (Some n) c = Some (reply_envelope n c.execution.identities c.execution.header)

-- an input_request goes to the stdin connection with the same identity as the connection that requested the
-- execution, if the request allows it
abbrev pub line_envelope : Connections → Current → Option Envelope
line_envelope connections c =
    if c.execution.request.allows_stdin then to_stdin (stdin_of c.execution.identity connections.peers) c
    else None

abbrev pub input_requests : Option Envelope → Bool → List Letter
input_requests None wants_line = []
input_requests (Some e) wants_line =
    if wants_line then record { envelope = e; content = content.InputRequest } ∷ [] else []

abbrev pub ending_of : End → Ending
ending_of end.Halted = Done
ending_of (end.Undefined opcode pc) = Failed (UndefinedOpcode opcode pc)

abbrev pub outcome_letters : Connections → Current → SliceOutcome → List Letter
outcome_letters connections c outcome.More = []
outcome_letters connections c outcome.Waiting = []
outcome_letters connections c (outcome.Stop s) =
    publication connections c.execution.header (content.DebugEvent (Stopped (reason_of s))) ∷ []
outcome_letters connections c (outcome.End e) = end_letters connections c (ending_of e)

-- what a slice posts, by its traffic and its outcome
abbrev pub slice_letters : Connections → Current → List PortOperation → SliceOutcome → List Letter
slice_letters connections c traffic ending =
    stream_letters connections c (filter_map written_to_console traffic) ++
    (input_requests (line_envelope connections c) (list_any wants_line traffic) ++
    outcome_letters connections c ending)
