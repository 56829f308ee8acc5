-- What is written for a file in Intel HEX, and the status.
use Rattle.std.specs.Prelude.{ℕ, List, Option, Result, Ok, Err, codes, if◌then◌else◌}
use Rattle.std.specs.Str.{is_utf8}
use Rattle.asm_hex.specs.Outcome.{FileFault}
use Rattle.asm_hex.specs.Faults.{fault_name}
use Rattle.asm_hex.specs.Contents.{hex_of}
use Rattle.asm_hex.specs.Cells.{cells_of}
use Rattle.i80_listings_laws.specs.Text.{listings_of}
use Rattle.cli_io.specs.declared.status.Status.{Status}
use Rattle.cli_io.specs.declared.status.Status.TheVariants.{Success, Refused}
use Rattle.cli_io.specs.Report.{line}
use Rattle.cli_hex.specs.Answer.{fault_line}

-- the listing of the bytes of a file, with its start, or its first fault
abbrev pub file_output : Result (List (ℕ × ℕ) × Option ℕ) FileFault → List ℕ
file_output (Ok file) = listings_of (cells_of file.0) file.1
file_output (Err fault) = fault_line fault.0 1 (fault_name fault.1)

abbrev pub file_status : Result (List (ℕ × ℕ) × Option ℕ) FileFault → Status
file_status (Ok file) = Success
file_status (Err fault) = Refused

-- input that isn't UTF-8 is no text, and is refused whatever else is wrong with it
abbrev pub list_output : List ℕ → List ℕ
list_output input = if (is_utf8 input) then (file_output (hex_of input)) else (line (codes "bad text"))

abbrev pub list_status : List ℕ → Status
list_status input = if (is_utf8 input) then (file_status (hex_of input)) else Refused
