-- The bytes of a program in memory, and where it starts.
use Rattle.std.specs.Prelude.{ℕ, ◌+◌, List, ◌++◌, length, map, replicate, Option, Some, None, is_some}
use Rattle.std.specs.Prelude.{option_map, unwrap_or, Result, Ok, Err, nat_lt, if◌then◌else◌}
use Rattle.std.specs.List.{position}
use Rattle.asm_hex.specs.Outcome.{FileFault}
use Rattle.asm_hex.specs.Contents.{hex_of}
use Rattle.asm_hex.specs.Cells.{cells_of}
use Rattle.dap_messages.specs.declared.file_kind.ImageKind.{ImageKind}
use Rattle.dap_messages.specs.declared.file_kind.ImageKind.TheVariants as kind
use Rattle.dap_image.specs.declared.fault.ImageFault.{ImageFault}
use Rattle.dap_image.specs.declared.fault.ImageFault.TheVariants as fault

-- for each address from 0 on the byte there, if there is one
abbrev pub Cells : Type 0
Cells = List (Option ℕ)

-- a memory, and the start that the file says
abbrev pub Image : Type 0
Image = Cells × Option ℕ

-- what Intel HEX says, or its first fault
abbrev pub file_image : Result (List (ℕ × ℕ) × Option ℕ) FileFault → Result Image ImageFault
file_image (Ok file) = Ok (cells_of file.0, file.1)
file_image (Err f) = Err (fault.Hex f.0 f.1)

abbrev pub hex_image : List ℕ → Result Image ImageFault
hex_image text = file_image (hex_of text)

-- bytes from an address on
abbrev pub cells_from : ℕ → List ℕ → Cells
cells_from address bytes = replicate address None ++ map Some bytes

-- they start at that address
abbrev pub bytes_image : ℕ → List ℕ → Result Image ImageFault
bytes_image address bytes =
    if (nat_lt 65536 (address + length bytes)) then (Err fault.PastEnd) else
    (Ok (cells_from address bytes, Some address))

-- a file of this form: a program for CP/M begins at 0100H, and bytes begin at the origin
abbrev pub image_of : ImageKind → ℕ → List ℕ → Result Image ImageFault
image_of kind.Hex origin bytes = hex_image bytes
image_of kind.Com origin bytes = bytes_image 256 bytes
image_of kind.Bytes origin bytes = bytes_image origin bytes

-- the start that is said, or else the lowest address that has a byte; none if no address has one
abbrev pub start_in : Cells → Option ℕ → Option ℕ
start_in cells said = option_map (λ lowest. unwrap_or said lowest) (position is_some cells)
