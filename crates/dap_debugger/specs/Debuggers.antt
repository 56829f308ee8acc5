-- What a debugger represents: all requests and slices so far, and all that it sent.
use Rattle.std.specs.Prelude.{◌≡◌, List, [], ◌∷◌, ◌++◌, Bool}
use Rattle.base_text.specs.Bytes.{Bytes}
use Rattle.dap_messages.specs.declared.message.Message.{Message}
use Rattle.dap_record.specs.Fields.{RecordedFields}
use Rattle.dap_record.specs.Recordings.{recorded_before_requests}
use Rattle.dap_record.specs.Slices.{Input, slice, play_all}
use Rattle.dap_record.specs.Represents.{RepresentsRecorded}
use Rattle.dap_debugger.specs.declared.sending.Progress.{Progress}
use Rattle.dap_debugger.specs.Sending.{at_start, after_messages, sent_bytes}

-- what a contract sees of it
pub record DebuggerState : Type 0 where
  pub session : RecordedFields
  pub progress : Progress
  pub told : List Message

-- After these requests and slices these bytes were sent: the session's messages, in order and numbered from
-- 1, without those that wait to be sent.
pub record Past (d : DebuggerState) (inputs : List Input) (bytes : Bytes) : Type 0 where
  pub session : RepresentsRecorded d.session (play_all inputs recorded_before_requests).state
  pub before : List Message
  pub messages : (play_all inputs recorded_before_requests).messages ≡ before ++ d.told
  pub progress : d.progress ≡ after_messages at_start before
  pub wrote : bytes ≡ sent_bytes at_start before

-- The same after one slice more, in which a search may come to its end.
abbrev pub PastSlice : DebuggerState → List Input → Bytes → Type 0
PastSlice d inputs bytes = (finds : Bool) × Past d (inputs ++ slice finds ∷ []) bytes
