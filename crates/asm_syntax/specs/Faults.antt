-- What is wrong with a cell, in one word.
use Rattle.std.specs.Prelude.{ℕ, List, codes}
use Rattle.asm_syntax.specs.declared.fault.FaultKind.{FaultKind}
use Rattle.asm_syntax.specs.declared.fault.FaultKind.TheVariants as fault

abbrev pub fault_name : FaultKind → List ℕ
fault_name fault.Character = codes "Character"
fault_name fault.Number = codes "Number"
fault_name fault.Text = codes "Text"
fault_name fault.Name = codes "Name"
fault_name fault.Mnemonic = codes "Mnemonic"
fault_name fault.Operands = codes "Operands"
fault_name (fault.Conditional is_missing_endif) = codes "Conditional"
fault_name fault.TooLong = codes "TooLong"
fault_name fault.Undefined = codes "Undefined"
fault_name fault.Divisor = codes "Divisor"
fault_name fault.Nesting = codes "Nesting"
fault_name fault.Twice = codes "Twice"
fault_name fault.Early = codes "Early"
fault_name fault.ByteRange = codes "ByteRange"
fault_name fault.Overlap = codes "Overlap"
fault_name fault.PastEnd = codes "PastEnd"
