-- The names of what can be wrong with Intel HEX.
use Rattle.std.specs.Prelude.{ℕ, List, codes}
use Rattle.asm_hex.specs.declared.fault.HexFaultKind.{HexFaultKind}
use Rattle.asm_hex.specs.declared.fault.HexFaultKind.TheVariants as kind

abbrev pub fault_name : HexFaultKind → List ℕ
fault_name kind.TooLong = codes "TooLong"
fault_name kind.Record = codes "Record"
fault_name kind.Digit = codes "Digit"
fault_name kind.Length = codes "Length"
fault_name kind.Checksum = codes "Checksum"
fault_name kind.Kind = codes "Kind"
fault_name kind.PastEnd = codes "PastEnd"
fault_name kind.Overlap = codes "Overlap"
fault_name kind.AfterEnd = codes "AfterEnd"
fault_name kind.NoEnd = codes "NoEnd"
