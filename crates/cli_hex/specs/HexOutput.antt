-- What is written for a cell, and the status.
use Rattle.std.specs.Prelude.{ℕ, List, [], Option, Result, Ok, Err, codes, if◌then◌else◌}
use Rattle.std.specs.Str.{is_utf8}
use Rattle.asm_syntax.specs.Outcome.{CellFault, ◌>>=◌}
use Rattle.asm_syntax.specs.Faults.{fault_name}
use Rattle.asm_text.specs.Statements.{statements_of}
use Rattle.asm_build.specs.Meaning.{Meaning, built_of}
use Rattle.asm_hex.specs.Cells.{cells_of}
use Rattle.asm_hex.specs.Written.{hex_text}
use Rattle.cli_io.specs.declared.status.Status.{Status}
use Rattle.cli_io.specs.declared.status.Status.TheVariants.{Success, Refused}
use Rattle.cli_io.specs.Report.{line}
use Rattle.cli_hex.specs.declared.hex.HexForm.{HexForm}
use Rattle.cli_hex.specs.declared.hex.HexForm.TheVariants.{Intel, Binary, Com}
use Rattle.cli_hex.specs.Answer.{fault_line}
use Rattle.cli_hex.specs.Binary.{binary_of, com_of, is_below}

-- the bytes of a memory, and its start, in a form
abbrev pub memory_output : HexForm → List (Option ℕ) → Option ℕ → List ℕ
memory_output Intel cells start = hex_text cells start
memory_output Binary cells start = binary_of cells
memory_output Com cells start = if (is_below cells) then (line (codes "below 0100")) else (com_of cells)

abbrev pub memory_status : HexForm → List (Option ℕ) → Status
memory_status Intel cells = Success
memory_status Binary cells = Success
memory_status Com cells = if (is_below cells) then Refused else Success

-- what a cell's text gives over no symbols, or its first fault
abbrev pub cell_of : List ℕ → Result Meaning CellFault
cell_of text = do
  statements ← statements_of text
  built_of [] statements

abbrev pub cell_output : HexForm → Result Meaning CellFault → List ℕ
cell_output form (Ok m) = memory_output form (cells_of m.output.image) m.output.start
cell_output form (Err f) = fault_line f.0 f.1 (fault_name f.2)

abbrev pub cell_status : HexForm → Result Meaning CellFault → Status
cell_status form (Ok m) = memory_status form (cells_of m.output.image)
cell_status form (Err f) = Refused

-- input that isn't UTF-8 is no text, and is refused whatever else is wrong with it
abbrev pub hex_output : HexForm → List ℕ → List ℕ
hex_output form input = if (is_utf8 input) then (cell_output form (cell_of input)) else (line
    (codes "bad text"))

abbrev pub hex_status : HexForm → List ℕ → Status
hex_status form input = if (is_utf8 input) then (cell_status form (cell_of input)) else Refused
