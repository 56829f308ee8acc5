-- The parts of a line in the code, as definitions see them.
use Rattle.std.specs.Prelude.{ℕ, List, [], ◌∷◌, codes}
use Rattle.i80_dis.specs.declared.operand.Operand.{Operand}
use Rattle.i80_dis.specs.declared.operand.Operand.TheVariants as operand
use Rattle.i80_dis.specs.declared.operand.Operands.{Operands}
use Rattle.i80_dis.specs.declared.operand.Operands.TheVariants as operands
use Rattle.i80_base.specs.declared.instruction.Instr.{Instr}
use Rattle.i80_base.specs.declared.instruction.Instr.TheVariants.{JumpIf, CallIf, RetIf}
use Rattle.asm_syntax.specs.Numerals.{byte_text, word_text}
use Rattle.i80_dis.specs.Text.{condition_word, mnemonic}

-- a mnemonic without its condition, and the condition
abbrev pub stem : Instr → List ℕ
stem (JumpIf c w) = codes "J"
stem (CallIf c w) = codes "C"
stem (RetIf c) = codes "R"
stem i = mnemonic i

abbrev pub ending : Instr → List ℕ
ending (JumpIf c w) = condition_word c
ending (CallIf c w) = condition_word c
ending (RetIf c) = condition_word c
ending _ = []

abbrev pub operand_text : Operand → List ℕ
operand_text (operand.Name word) = word.now
operand_text (operand.Byte b) = byte_text b
operand_text (operand.Word w) = word_text w

abbrev pub texts_of : Operands → List (List ℕ)
texts_of operands.Zero = []
texts_of (operands.One a) = operand_text a ∷ []
texts_of (operands.Two a b) = operand_text a ∷ operand_text b ∷ []
