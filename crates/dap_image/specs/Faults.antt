-- Why a program has no text, for the user.
use Rattle.std.specs.Prelude.{◌++◌, codes, decimal}
use Rattle.base_text.specs.Bytes.{Text}
use Rattle.asm_hex.specs.Faults.{fault_name}
use Rattle.dap_image.specs.declared.fault.ImageFault.{ImageFault}
use Rattle.dap_image.specs.declared.fault.ImageFault.TheVariants as fault

abbrev pub fault_message : ImageFault → Text
fault_message fault.OutOfMemory = codes "out of memory"
fault_message (fault.Hex line kind) = decimal line ++ codes ": " ++ fault_name kind
fault_message fault.PastEnd = codes "the program ends behind FFFF"
fault_message fault.Empty = codes "the program has no bytes"
fault_message fault.TooManyLines = codes "the listing has too many lines"
