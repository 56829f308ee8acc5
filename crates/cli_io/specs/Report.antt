-- What a report says.
use Rattle.std.specs.Prelude.{◌≡◌, ℕ, List, [], ◌∷◌, ◌++◌, IfSome, Result, IfOk, codes, string_bytes}
use Rattle.base_streams.specs.States.{InletState}
use Rattle.cli_io.specs.declared.status.Status.{Status}
use Rattle.cli_io.specs.Engine.{answer_status}
use Rattle.cli_io.specs.HexInput.{Input, BadHex, PastEnd, Bytes}
use Rattle.cli_io.specs.declared.hex_input.HexFault.{HexFault}
use Rattle.cli_io.specs.declared.hex_input.HexFault.TheVariants as fault
use Rattle.cli_io.specs.declared.text_input.TextFault.{TextFault}
use Rattle.cli_io.specs.declared.text_input.TextFault.TheVariants as text
use Rattle.cli_io.specs.declared.report.Report.{Report}
use Rattle.cli_io.specs.declared.status.Status.TheVariants.{Refused, OutOfMemory, Failed}

pub record IsReport (report : Report) (status : Status) (text : List ℕ) : Type 0 where
  pub status_is : answer_status report.is_refused ≡ status
  pub text_is : string_bytes report.text ≡ text

-- the report, if there is one, has the status and the text of the input that the reader has left
abbrev pub ReportsInput : (List ℕ → Status) → (List ℕ → List ℕ) → Result Report Status → InletState → Type 0
ReportsInput status_of text_of result reader =
    IfSome reader.left (λ input. IfOk result (λ report. IsReport report (status_of input) (text_of input)))

abbrev pub line : List ℕ → List ℕ
line words = words ++ 10 ∷ []

-- refused hexadecimal input has a line; out of memory and a failed read have none
abbrev pub Refuses : HexFault → Report → Type 0
Refuses fault.BadHex report = IsReport report Refused (line (codes "bad hex"))
Refuses fault.PastEnd report = IsReport report Refused (line (codes "past end"))
Refuses fault.OutOfMemory report = ⊥
Refuses fault.Read report = ⊥

-- the status in place of a report: a failed read is reported as one, and nothing else is
abbrev pub IsToldBy : HexFault → Status → Type 0
IsToldBy fault.Read status = status ≡ Failed
IsToldBy _ status = status ≡ OutOfMemory

-- the same of refused text
abbrev pub RefusesText : TextFault → Report → Type 0
RefusesText text.BadText report = IsReport report Refused (line (codes "bad text"))
RefusesText text.OutOfMemory report = ⊥
RefusesText text.Read report = ⊥

abbrev pub IsToldByText : TextFault → Status → Type 0
IsToldByText text.Read status = status ≡ Failed
IsToldByText text.BadText status = status ≡ OutOfMemory
IsToldByText text.OutOfMemory status = status ≡ OutOfMemory

-- the text of an input: bytes have their own, refused input has its line
abbrev pub text_for : (List ℕ → List ℕ) → Input → List ℕ
text_for f BadHex = line (codes "bad hex")
text_for f PastEnd = line (codes "past end")
text_for f (Bytes bytes) = f bytes

abbrev pub status_for : (List ℕ → Status) → Input → Status
status_for f BadHex = Refused
status_for f PastEnd = Refused
status_for f (Bytes bytes) = f bytes
