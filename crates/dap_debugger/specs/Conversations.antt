-- A conversation with an editor: what came from it, what was found for it, and what went out to it.
use Rattle.std.specs.Prelude.{◌≡◌, ◌≢◌, ◌≤◌, List, [], ◌∷◌, ◌++◌, length, true, false, Option, Some}
use Rattle.std.specs.Prelude.{None, map, Bool}
use Rattle.std.specs.List.{flat_map}
use Rattle.base_text.specs.Bytes.{Bytes, Text}
use Rattle.base_streams.specs.States.{OutletState}
use Rattle.base_streams.specs.Told.{Took, TookPrefix}
use Rattle.dap_messages.specs.declared.message.Numbering.{Numbering}
use Rattle.dap_messages.specs.Numbering.{numbering_of}
use Rattle.dap_requests.specs.declared.request.EditorRequest.{EditorRequest}
use Rattle.dap_launch.specs.declared.file.FileText.{FileText}
use Rattle.dap_debugger.specs.Paths.{path_in, with_canonical}
use Rattle.dap_session.specs.States.{SessionState}
use Rattle.dap_session.specs.Requests.{wanted_file}
use Rattle.dap_record.specs.Recordings.{recorded_before_requests}
use Rattle.dap_record.specs.Slices.{Input, request, slice, play_all}
use Rattle.dap_debugger.specs.declared.incoming.Incoming.{Incoming}
use Rattle.dap_debugger.specs.declared.incoming.Incoming.TheVariants as incoming
use Rattle.dap_debugger.specs.declared.conversation.ConversationEnd.{ConversationEnd}
use Rattle.dap_debugger.specs.declared.conversation.ConversationEnd.TheVariants as end
use Rattle.dap_debugger.specs.Requests.{request_of}
use Rattle.dap_debugger.specs.Sending.{at_start, sent_bytes}
use Rattle.dap_debugger.specs.Given.{Gave}
use Rattle.dap_debugger.specs.KnownFiles.{KnownFiles}
use Rattle.dap_debugger.specs.Debuggers.{DebuggerState, Past}

-- ---- exchanges

-- A body that was answered, with how the editor counts lines in it, the canonical path of the file that its
-- request names, if one was found, and what was found at the path that the request needs; or no body came,
-- and the run went on. Each says whether a search backward came to its end in it.
pub data Exchange : Type 0 where
  answered : Numbering → Bytes → Option Text → Option FileText → Bool → Exchange
  idle : Bool → Exchange

abbrev pub incoming_of : Exchange → Incoming
incoming_of (answered numbering body canonical found finds) = incoming.Body body
incoming_of (idle finds) = incoming.Nothing

-- the request in a body, with this canonical path of the file that it names
abbrev pub asked_in : Numbering → Bytes → Option Text → EditorRequest
asked_in numbering body canonical = with_canonical canonical (request_of numbering body)

-- the request, and a slice of the run, which is nothing if no run goes on
abbrev pub inputs_in : Exchange → List Input
inputs_in (answered numbering body canonical found finds) =
    request (asked_in numbering body canonical) found ∷ slice finds ∷ []
inputs_in (idle finds) = slice finds ∷ []

abbrev pub inputs_of : List Exchange → List Input
inputs_of exchanges = flat_map inputs_in exchanges

-- the session after exchanges
abbrev pub session_after : List Exchange → SessionState
session_after exchanges = (play_all (inputs_of exchanges) recorded_before_requests).state.session

-- all that is sent in them
abbrev pub bytes_for : List Exchange → Bytes
bytes_for exchanges = sent_bytes at_start (play_all (inputs_of exchanges) recorded_before_requests).messages

-- how the editor counts after inputs
abbrev pub numbering_by : List Input → Numbering
numbering_by inputs = numbering_of (play_all inputs recorded_before_requests).messages

abbrev pub numbering_after : List Exchange → Numbering
numbering_after exchanges = numbering_by (inputs_of exchanges)

-- ---- files

-- the canonical path is one that the file at this path may have, and there is none if no file is named
abbrev pub IsCanonical : KnownFiles → Option Text → Option Text → Type 0
IsCanonical known None canonical = canonical ≡ None
IsCanonical known (Some path) canonical = known.may_be_at path canonical

-- the same request with such a path of the file that it names
abbrev pub IsResolved : KnownFiles → EditorRequest → EditorRequest → Type 0
IsResolved known r resolved = (canonical : Option Text)
    × IsCanonical known (path_in r.asked) canonical × (resolved ≡ with_canonical canonical r)

-- what was found is what may be found at the path that is needed, and nothing if none is
abbrev pub IsFound : KnownFiles → Option Text → Option FileText → Type 0
IsFound known None found = found ≡ None
IsFound known (Some path) found = (file : FileText) × (found ≡ Some file) × known.may_find path file

-- both for the request in a body
abbrev pub FindsFor : KnownFiles → EditorRequest → Option Text → Option FileText → SessionState → Type 0
FindsFor known r canonical found s = IsCanonical known (path_in r.asked) canonical
    × IsFound known (wanted_file (with_canonical canonical r).asked s) found

-- by the exchanges before
abbrev pub FindsIn : KnownFiles → Exchange → List Exchange → Type 0
FindsIn known (answered numbering body canonical found finds) before =
    (numbering ≡ numbering_after before)
    × FindsFor known (request_of numbering body) canonical found (session_after before)
FindsIn known (idle finds) before = Unit {0}

-- in each exchange
abbrev pub FindsFiles : KnownFiles → List Exchange → Type 0
FindsFiles known exchanges = (before after : List Exchange) (x : Exchange)
    → exchanges ≡ before ++ x ∷ after → FindsIn known x before

-- ---- a conversation

-- what the source has given, and what the outlet has taken
pub record Ports : Type 0 where
  pub given : Option (List Incoming)
  pub outlet : OutletState

abbrev pub ports : Option (List Incoming) → OutletState → Ports
ports given outlet = record { given = given; outlet = outlet }

-- What was written, and what came last without an answer, by why the conversation ended. If memory ran out,
-- the messages of the exchanges were written; what the source gave last, if it gave anything more, is lost.
abbrev pub EndsBy : ConversationEnd → List Exchange → List Incoming → OutletState → OutletState → Type 0
EndsBy (end.Stream how) exchanges last old new =
    (last ≡ incoming.End how ∷ []) × Took old new (bytes_for exchanges)
EndsBy end.Disconnected exchanges last old new =
    (last ≡ []) × ((session_after exchanges).settings.has_ended ≡ true) × Took old new (bytes_for exchanges)
EndsBy end.WriteFailed exchanges last old new =
    (last ≡ []) × (new.failed ≡ true) × TookPrefix old new (bytes_for exchanges)
EndsBy end.OutOfMemory exchanges last old new = (length last ≤ 1) × Took old new (bytes_for exchanges)

-- All that the source gave was answered in its order, each body by what the session says of it and of what
-- may be found, with lines and columns as the editor counts them by what was sent before. What went out are
-- the messages of these exchanges. None but the last answered a disconnect.
pub record Converses (known : KnownFiles) (old new : Ports) (how : ConversationEnd) : Type 0 where
  pub exchanges : List Exchange
  pub last : List Incoming
  pub came : Gave old.given new.given (map incoming_of exchanges ++ last)
  pub found : FindsFiles known exchanges
  pub ends : EndsBy how exchanges last old.outlet new.outlet
  pub goes_on : (before after : List Exchange) → exchanges ≡ before ++ after → after ≢ []
      → (session_after before).settings.has_ended ≡ false

-- the same so far, of a conversation that goes on, whose debugger is this
pub record HasConversed (known : KnownFiles) (old new : Ports) (d : DebuggerState) : Type 0 where
  pub exchanges : List Exchange
  pub came : Gave old.given new.given (map incoming_of exchanges)
  pub found : FindsFiles known exchanges
  pub past : Past d (inputs_of exchanges) (bytes_for exchanges)
  pub sent : d.told ≡ []
  pub took : Took old.outlet new.outlet (bytes_for exchanges)
  pub goes_on : (before after : List Exchange) → exchanges ≡ before ++ after
      → (session_after before).settings.has_ended ≡ false

-- ---- parts of an exchange

-- the request in a body is answered, by what was found for it
pub record Answers (known : KnownFiles) (body : Bytes) (old new : DebuggerState) : Type 0 where
  pub each : (inputs : List Input) (bytes : Bytes) → Past old inputs bytes
      → (canonical : Option Text) × (found : Option FileText)
      × FindsFor known (request_of old.progress.numbering body) canonical found
      (play_all inputs recorded_before_requests).state.session
      × Past new (inputs ++ request (asked_in old.progress.numbering body canonical) found ∷ []) bytes

-- what waited is written
pub record Writes (old new : DebuggerState) (from to : OutletState) : Type 0 where
  pub sent : new.told ≡ []
  pub each : (inputs : List Input) (bytes : Bytes) → Past old inputs bytes
      → (more : Bytes) × Past new inputs (bytes ++ more) × Took from to more

-- a prefix of what waited is written
pub record WritesPrefix (old new : DebuggerState) (from to : OutletState) : Type 0 where
  pub sent : new.told ≡ []
  pub each : (inputs : List Input) (bytes : Bytes) → Past old inputs bytes
      → (more : Bytes) × Past new inputs (bytes ++ more) × TookPrefix from to more

-- or it isn't: nothing is written if memory runs out, and a prefix if a write fails
abbrev pub FailsToWrite : DebuggerState → DebuggerState → OutletState → OutletState → ConversationEnd → Type 0
FailsToWrite old new from to end.OutOfMemory = to ≡ from
FailsToWrite old new from to end.WriteFailed = (to.failed ≡ true) × WritesPrefix old new from to
FailsToWrite old new from to _ = ⊥

-- all exchanges but the last were written
pub record HasAnswered (known : KnownFiles) (old new : Ports) (d : DebuggerState) : Type 0 where
  pub exchanges : List Exchange
  pub x : Exchange
  pub came : Gave old.given new.given (map incoming_of (exchanges ++ x ∷ []))
  pub found : FindsFiles known (exchanges ++ x ∷ [])
  pub past : Past d (inputs_of (exchanges ++ x ∷ [])) (bytes_for exchanges)
  pub took : Took old.outlet new.outlet (bytes_for exchanges)
  pub goes_on : (before after : List Exchange) → exchanges ≡ before ++ after
      → (session_after before).settings.has_ended ≡ false
