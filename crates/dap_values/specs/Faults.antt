-- Why an expression has no value, or a place can't get one.
use Rattle.std.specs.Prelude.{◌≡◌, ◌++◌, Result, Err, codes, decimal}
use Rattle.base_text.specs.Bytes.{Text}
use Rattle.asm_expr.specs.declared.evaluation.ExprFault.{ExprFault}
use Rattle.asm_expr.specs.declared.evaluation.ExprFault.TheVariants.{Undefined, Divisor}
use Rattle.asm_syntax.specs.Faults.{fault_name}
use Rattle.dap_values.specs.declared.change.ChangeFault.{ChangeFault}
use Rattle.dap_values.specs.declared.change.ChangeFault.TheVariants as change
use Rattle.dap_values.specs.declared.fault.LookFault.{LookFault}
use Rattle.dap_values.specs.declared.fault.LookFault.TheVariants as fault

-- what a function returns is this, or out of memory
abbrev pub LookGives : {A : Type 0} → Result A LookFault → Result A LookFault → Type 0
LookGives (Err fault.OutOfMemory) wanted = Unit {0}
LookGives result wanted = result ≡ wanted

abbrev pub change_fault : ChangeFault → LookFault
change_fault change.OutOfMemory = fault.OutOfMemory
change_fault (change.TooLarge most) = fault.TooLarge most
change_fault change.NoRoom = fault.NoRoom

abbrev pub value_fault_name : ExprFault → Text
value_fault_name Undefined = codes "Undefined"
value_fault_name Divisor = codes "Divisor"

abbrev pub message_of : LookFault → Text
message_of fault.OutOfMemory = codes "out of memory"
message_of fault.NoExpression = codes "an expression has one line, and a value"
message_of (fault.Syntax column kind) = codes "column " ++ decimal column ++ codes ": " ++ fault_name kind
message_of (fault.Value why) = value_fault_name why
message_of fault.NoPlace = codes "this is no place: a register, a flag, [e] or word[e] is one"
message_of fault.NoVariable = codes "no such variable"
message_of (fault.TooLarge most) = codes "the value must be from 0 to " ++ decimal most
message_of fault.NoRoom = codes "a word has no room at FFFF"
