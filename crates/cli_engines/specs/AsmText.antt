-- The text that the word `asm` writes for its input, and its status.
use Rattle.std.specs.Prelude.{ℕ, List, [], ◌++◌, Option, Some, None, Result, Ok, Err, codes, if◌then◌else◌}
use Rattle.std.specs.Fmt.{decimal}
use Rattle.std.specs.Str.{is_utf8}
use Rattle.i80_exec.specs.State.{power_on, with_pc, with_image_bytes}
use Rattle.asm_syntax.specs.Outcome.{CellFault, ◌>>=◌}
use Rattle.asm_syntax.specs.Faults.{fault_name}
use Rattle.asm_text.specs.Statements.{statements_of}
use Rattle.asm_build.specs.Meaning.{Meaning, built_of}
use Rattle.cli_io.specs.declared.status.Status.{Status}
use Rattle.cli_io.specs.declared.status.Status.TheVariants.{Success, Refused}
use Rattle.base_text.specs.Hexadecimal.{upper_word}
use Rattle.cli_io.specs.Report.{line}
use Rattle.cli_run.specs.Computer.{Computer, fresh}
use Rattle.cli_run.specs.RunText.{run_end_text}
use Rattle.cli_engines.specs.Image.{image_text}

-- a machine after power-on with the image in its memory, about to begin at this address
abbrev pub begun_at : ℕ → List (ℕ × ℕ) → Computer
begun_at address image = fresh (with_pc (with_image_bytes power_on image) address)

-- the start of the program and how it ends after at most 100,000 steps, if the cell has a start
abbrev pub start_text : List (ℕ × ℕ) → Option ℕ → List ℕ
start_text image None = []
start_text image (Some address) =
    line (codes "start " ++ upper_word address) ++ run_end_text 100000 (begun_at address image)

abbrev pub built_text : List (ℕ × ℕ) → Option ℕ → List ℕ
built_text image start = image_text image ++ start_text image start

-- what is wrong, after its line and column
abbrev pub fault_line : ℕ → ℕ → List ℕ → List ℕ
fault_line number column name = line (decimal number ++ codes ":" ++ decimal column ++ codes " " ++ name)

-- what a cell's text gives over no symbols, or its first fault
abbrev pub cell_of : List ℕ → Result Meaning CellFault
cell_of text = do
  statements ← statements_of text
  built_of [] statements

abbrev pub cell_text : Result Meaning CellFault → List ℕ
cell_text (Ok m) = built_text m.output.image m.output.start
cell_text (Err f) = fault_line f.0 f.1 (fault_name f.2)

abbrev pub cell_status : Result Meaning CellFault → Status
cell_status (Ok m) = Success
cell_status (Err f) = Refused

-- input that isn't UTF-8 is no text, and is refused whatever else is wrong with it
abbrev pub asm_text : List ℕ → List ℕ
asm_text input = if (is_utf8 input) then (cell_text (cell_of input)) else (line (codes "bad text"))

abbrev pub asm_status : List ℕ → Status
asm_status input = if (is_utf8 input) then (cell_status (cell_of input)) else Refused
