-- The text that the word `step` writes for its input, and its status.
use Rattle.std.specs.Prelude.{ℕ, List}
use Rattle.cli_io.specs.declared.status.Status.{Status}
use Rattle.cli_io.specs.declared.status.Status.TheVariants.{Success}
use Rattle.cli_io.specs.HexInput.{input_of}
use Rattle.cli_io.specs.Report.{text_for, status_for}
use Rattle.cli_run.specs.Computer.{computer_with}
use Rattle.cli_run.specs.RunText.{run_text}

-- what a program's bytes print, stored from address 0 on and run from there for 1,000 steps at most
abbrev pub program_text : List ℕ → List ℕ
program_text bytes = run_text 1000 (computer_with bytes)

abbrev pub step_text : List ℕ → List ℕ
step_text input = text_for program_text (input_of input)

abbrev pub step_status : List ℕ → Status
step_status input = status_for (λ bytes. Success) (input_of input)
