-- Instructions that lack their operand, with this operand.
use Rattle.std.specs.Prelude.{ℕ}
use Rattle.i80_base.specs.declared.instruction.Instr.{Instr}
use Rattle.i80_base.specs.declared.instruction.Instr.TheVariants as instr
use Rattle.i80_base.specs.declared.instruction.ByteOperation.{ByteOperation}
use Rattle.i80_base.specs.declared.instruction.ByteOperation.TheVariants as byte
use Rattle.i80_base.specs.declared.instruction.WordOperation.{WordOperation}
use Rattle.i80_base.specs.declared.instruction.WordOperation.TheVariants as word

-- with this byte
abbrev pub byte_instruction : ByteOperation → ℕ → Instr
byte_instruction (byte.Mvi r) b = instr.Mvi r b
byte_instruction (byte.AluImmediate op) b = instr.AluImmediate op b
byte_instruction byte.Out b = instr.Out b
byte_instruction byte.In b = instr.In b

-- with this word
abbrev pub word_instruction : WordOperation → ℕ → Instr
word_instruction (word.Lxi p) w = instr.Lxi p w
word_instruction word.Shld w = instr.Shld w
word_instruction word.Lhld w = instr.Lhld w
word_instruction word.Sta w = instr.Sta w
word_instruction word.Lda w = instr.Lda w
word_instruction word.Jmp w = instr.Jmp w
word_instruction (word.JumpIf c) w = instr.JumpIf c w
word_instruction word.Call w = instr.Call w
word_instruction (word.CallIf c) w = instr.CallIf c w
