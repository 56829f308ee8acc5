-- The name of an error, its value, and its traceback of one line (Jupyter messaging, "Request-reply",
-- "Execution errors").
use Rattle.std.specs.Prelude.{[], ◌∷◌, ◌++◌, codes, decimal}
use Rattle.base_text.specs.Bytes.{Text}
use Rattle.serde_json.specs.Data.{Data, string}
use Rattle.base_text.specs.Hexadecimal.{upper_byte, upper_word}
use Rattle.asm_syntax.specs.Faults.{fault_name}
use Rattle.asm_syntax.specs.declared.fault.AsmFault.{AsmFault}
use Rattle.asm_syntax.specs.declared.fault.AsmFault.TheVariants as asm
use Rattle.kern_post.specs.declared.content.Cause.{Cause}
use Rattle.kern_post.specs.declared.content.Cause.TheVariants as cause
use Rattle.dap_answers.specs.Json.{list_of}

abbrev pub ename_of : Cause → Text
ename_of (cause.Assembly f) = codes "AssemblyError"
ename_of (cause.UndefinedOpcode opcode pc) = codes "UndefinedOpcode"
ename_of cause.Interrupted = codes "Interrupted"
ename_of cause.Reset = codes "Reset"
ename_of cause.QueueFull = codes "QueueFull"
ename_of cause.BadContent = codes "BadContent"
ename_of cause.SourceNameTaken = codes "SourceNameTaken"
ename_of cause.SourcesFull = codes "SourcesFull"

-- the line and the column, from 1, and the name of the fault there
abbrev pub fault_text : AsmFault → Text
fault_text asm.OutOfMemory = codes "OutOfMemory"
fault_text (asm.At line column kind) =
    decimal line ++ codes ":" ++ decimal column ++ codes " " ++ fault_name kind

-- empty if the name says all
abbrev pub evalue_of : Cause → Text
evalue_of (cause.Assembly f) = fault_text f
evalue_of (cause.UndefinedOpcode opcode pc) = upper_byte opcode ++ codes " at " ++ upper_word pc
evalue_of _ = []

-- the space is there even if the value is empty
abbrev pub error_line : Cause → Text
error_line c = ename_of c ++ codes ": " ++ evalue_of c

abbrev pub traceback_of : Cause → Data
traceback_of c = list_of string (error_line c ∷ [])
