-- What an answer says.
use Rattle.std.specs.Prelude.{◌≡◌, ℕ, List, ◌++◌, IfSome, Result, IfOk, codes}
use Rattle.std.specs.Fmt.{decimal}
use Rattle.base_streams.specs.States.{InletState}
use Rattle.cli_io.specs.declared.status.Status.{Status}
use Rattle.cli_io.specs.declared.status.Status.TheVariants.{Refused}
use Rattle.cli_io.specs.declared.text_input.TextFault.{TextFault}
use Rattle.cli_io.specs.declared.text_input.TextFault.TheVariants as fault
use Rattle.cli_io.specs.Engine.{answer_status}
use Rattle.cli_io.specs.Report.{line}
use Rattle.cli_hex.specs.declared.answer.Answer.{Answer}

pub record IsAnswer (answer : Answer) (status : Status) (bytes : List ℕ) : Type 0 where
  pub status_is : answer_status answer.is_refused ≡ status
  pub bytes_are : answer.bytes.items ≡ bytes

-- the answer, if there is one, has the status and the bytes for the input that the reader has left
abbrev pub AnswersFor : (List ℕ → Status) → (List ℕ → List ℕ) → Result Answer Status → InletState → Type 0
AnswersFor status_of bytes_of result reader =
    IfSome reader.left (λ input. IfOk result (λ a. IsAnswer a (status_of input) (bytes_of input)))

-- what is wrong, after its line and column
abbrev pub fault_line : ℕ → ℕ → List ℕ → List ℕ
fault_line number column name = line (decimal number ++ codes ":" ++ decimal column ++ codes " " ++ name)

-- refused text has a line; out of memory and a failed read have none
abbrev pub RefusesAs : TextFault → Answer → Type 0
RefusesAs fault.BadText answer = IsAnswer answer Refused (line (codes "bad text"))
RefusesAs fault.OutOfMemory answer = ⊥
RefusesAs fault.Read answer = ⊥
