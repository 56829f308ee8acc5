-- What a JSON value is as a debug request (Debug Adapter Protocol, "Base Protocol": ProtocolMessage
-- and Request), and the fault of a value that isn't one.
use Rattle.std.specs.Prelude.{
  ◌≡◌,
  ℕ,
  Option,
  Some,
  None,
  Result,
  Ok,
  Err,
  if◌then◌else◌,
  option_map,
  option_and_then,
  codes,
}
use Rattle.std.specs.Str.{bytes_eq}
use Rattle.base_text.specs.Bytes.{Text}
use Rattle.serde_json.specs.Data.{Data}
use Rattle.serde_json.specs.Find.{get}
use Rattle.dap_talk.specs.declared.command.CommandName.{CommandName}
use Rattle.dap_talk.specs.declared.command.DapCommand.{DapCommand}
use Rattle.dap_talk.specs.declared.command.DapRequest.{DapRequest}
use Rattle.dap_talk.specs.declared.fault.DapFault.{DapFault}
use Rattle.dap_talk.specs.declared.fault.DapFault.TheVariants as fault
use Rattle.dap_talk.specs.Argument.{whole_between, text_at}
use Rattle.dap_talk.specs.Table.{command_named, command_asked}

-- the number and the text of the command of a request
pub record Envelope : Type 0 where
  pub seq : ℕ
  pub command : Text

abbrev pub envelope_with : ℕ → Text → Envelope
envelope_with seq command = record { seq = seq; command = command }

-- the type `request`
abbrev pub request_type : Data → Option Text
request_type d =
    option_and_then
    (λ t. if bytes_eq t (codes "request") then Some t else None)
    (text_at (codes "type") d)

abbrev pub seq_of : Data → Option ℕ
seq_of d = option_and_then (whole_between 0 4294967295) (get (codes "seq") d)

abbrev pub command_text : Data → Option Text
command_text d = text_at (codes "command") d

-- an object with the type `request`, a whole number of 32 bits as `seq`, and a text as `command`
abbrev pub envelope_of : Data → Option Envelope
envelope_of d =
    option_and_then
    (λ kind. option_and_then (λ seq. option_map (envelope_with seq) (command_text d)) (seq_of d))
    (request_type d)

pub data Reading : Type 0 where
  not_request : Reading
  unknown_command : ℕ → Text → Reading
  bad_arguments : ℕ → Text → Reading
  request : ℕ → DapCommand → Reading

abbrev pub reading_of_command : Envelope → Option DapCommand → Reading
reading_of_command e None = bad_arguments e.seq e.command
reading_of_command e (Some command) = request e.seq command

abbrev pub reading_of_name : Envelope → Data → Option CommandName → Reading
reading_of_name e d None = unknown_command e.seq e.command
reading_of_name e d (Some name) = reading_of_command e (command_asked name d)

abbrev pub reading_of_envelope : Data → Option Envelope → Reading
reading_of_envelope d None = not_request
reading_of_envelope d (Some e) = reading_of_name e d (command_named e.command)

-- a request whose command is in the table, with arguments as there
unfoldable pub reading : Data → Reading
reading d = reading_of_envelope d (envelope_of d)

-- memory can run out only for a request
abbrev pub IsOfRequest : Reading → Type 0
IsOfRequest not_request = ⊥
IsOfRequest (unknown_command seq command) = ⊥
IsOfRequest (bad_arguments seq command) = ⊥
IsOfRequest (request seq command) = Unit {0}

-- a result is what a value is read as
abbrev pub Answers : Reading → Result DapRequest DapFault → Type 0
Answers reading (Ok r) = reading ≡ request r.seq r.command
Answers reading (Err fault.OutOfMemory) = IsOfRequest reading
Answers reading (Err fault.NotRequest) = reading ≡ not_request
Answers reading (Err (fault.Command seq command)) = reading ≡ unknown_command seq command.now
Answers reading (Err (fault.Arguments seq command)) = reading ≡ bad_arguments seq command.now
