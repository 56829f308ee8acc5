-- How many bytes operations have (8080/8085 Assembly Language Programming Manual, chapters 3 and 4).
use Rattle.std.specs.Prelude.{ℕ, ◌*◌, length, sum, map}
use Rattle.asm_syntax.specs.declared.statement.Instruction.{Instruction}
use Rattle.asm_syntax.specs.declared.statement.Instruction.TheVariants as instruction
use Rattle.asm_syntax.specs.declared.statement.Data.{Data}
use Rattle.asm_syntax.specs.declared.statement.Data.TheVariants as datum
use Rattle.asm_syntax.specs.declared.statement.Action.{Action}
use Rattle.asm_syntax.specs.declared.statement.Action.TheVariants as action

-- the number of bytes of an instruction
abbrev pub length_of_instruction : Instruction → ℕ
length_of_instruction (instruction.Alone i) = 1
length_of_instruction (instruction.Byte op o) = 2
length_of_instruction (instruction.Word op o) = 3
length_of_instruction (instruction.Restart o) = 1

-- the number of bytes of an operand of DB
abbrev pub length_of_datum : Data → ℕ
length_of_datum (datum.Text t) = length t
length_of_datum (datum.Byte o) = 1

-- the number of bytes that an action fills or, for DS, skips, where its early operand has this value
abbrev pub length_of : Action → ℕ → ℕ
length_of (action.Instruction i) value = length_of_instruction i
length_of (action.Bytes ds) value = sum (map length_of_datum ds)
length_of (action.Words os) value = 2 * length os
length_of (action.Space o) value = value
length_of _ value = 0
