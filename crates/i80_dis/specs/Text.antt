-- How a listing is written: mnemonics and operands of the 8080/8085 Assembly Language Programming
-- Manual, chapter 3; numbers in hexadecimal, of two digits for a byte and four for a word.
use Rattle.std.specs.Prelude.{ℕ, List, [], ◌∷◌, ◌++◌, codes}
use Rattle.asm_syntax.specs.Numerals.{byte_text, word_text}
use Rattle.i80_base.specs.declared.instruction.Cond.{Cond}
use Rattle.i80_base.specs.declared.instruction.Cond.TheVariants as cond
use Rattle.i80_base.specs.declared.instruction.IndexPair.{IndexPair}
use Rattle.i80_base.specs.declared.instruction.IndexPair.TheVariants as index
use Rattle.i80_base.specs.declared.instruction.Instr.{Instr}
use Rattle.i80_base.specs.declared.instruction.Instr.TheVariants.{Nop, Lxi, Stax, Ldax, Shld, Lhld, Sta, Lda}
use Rattle.i80_base.specs.declared.instruction.Instr.TheVariants.{Inx, Dcx, Dad, Inr, Dcr, Mvi, Rotate, Daa}
use Rattle.i80_base.specs.declared.instruction.Instr.TheVariants.{Cma, Stc, Cmc, Mov, MovFromM, MovToM, Hlt}
use Rattle.i80_base.specs.declared.instruction.Instr.TheVariants.{Alu, AluImmediate, Jmp, JumpIf, Call}
use Rattle.i80_base.specs.declared.instruction.Instr.TheVariants.{CallIf, Ret, RetIf, Rst, Push, Pop, Xthl}
use Rattle.i80_base.specs.declared.instruction.Instr.TheVariants.{Xchg, Pchl, Sphl, Out, In, Di, Ei}
use Rattle.i80_base.specs.declared.instruction.Operation.{Operation}
use Rattle.i80_base.specs.declared.instruction.Operation.TheVariants as operation
use Rattle.i80_base.specs.declared.instruction.Pair.{Pair}
use Rattle.i80_base.specs.declared.instruction.Pair.TheVariants as pair
use Rattle.i80_base.specs.declared.instruction.Reg.{Reg}
use Rattle.i80_base.specs.declared.instruction.Reg.TheVariants as reg
use Rattle.i80_base.specs.declared.instruction.Rotation.{Rotation}
use Rattle.i80_base.specs.declared.instruction.Rotation.TheVariants as rotation
use Rattle.i80_base.specs.declared.instruction.StackPair.{StackPair}
use Rattle.i80_base.specs.declared.instruction.StackPair.TheVariants as stack
use Rattle.i80_base.specs.declared.instruction.Vector.{Vector}
use Rattle.i80_base.specs.declared.instruction.Vector.TheVariants as vector
use Rattle.i80_base.specs.Codes.{reg_of}
use Rattle.i80_dis.specs.declared.line.Shown.{Shown}
use Rattle.i80_dis.specs.declared.line.Shown.TheVariants.{Instruction, Datum}
use Rattle.i80_dis.specs.Shown.{first_shown, lines_of}

-- ---- words

abbrev pub register_word : Reg → List ℕ
register_word reg.B = codes "B"
register_word reg.C = codes "C"
register_word reg.D = codes "D"
register_word reg.E = codes "E"
register_word reg.H = codes "H"
register_word reg.L = codes "L"
register_word reg.M = codes "M"
register_word reg.A = codes "A"

abbrev pub pair_word : Pair → List ℕ
pair_word pair.B = codes "B"
pair_word pair.D = codes "D"
pair_word pair.H = codes "H"
pair_word pair.Sp = codes "SP"

abbrev pub index_word : IndexPair → List ℕ
index_word index.B = codes "B"
index_word index.D = codes "D"

abbrev pub stack_word : StackPair → List ℕ
stack_word stack.B = codes "B"
stack_word stack.D = codes "D"
stack_word stack.H = codes "H"
stack_word stack.Psw = codes "PSW"

-- what ends the mnemonic of a jump, call or return with a condition
abbrev pub condition_word : Cond → List ℕ
condition_word cond.NotZero = codes "NZ"
condition_word cond.Zero = codes "Z"
condition_word cond.NoCarry = codes "NC"
condition_word cond.Carry = codes "C"
condition_word cond.ParityOdd = codes "PO"
condition_word cond.ParityEven = codes "PE"
condition_word cond.Plus = codes "P"
condition_word cond.Minus = codes "M"

-- an operation with a register
abbrev pub operation_word : Operation → List ℕ
operation_word operation.Add = codes "ADD"
operation_word operation.Adc = codes "ADC"
operation_word operation.Sub = codes "SUB"
operation_word operation.Sbb = codes "SBB"
operation_word operation.Ana = codes "ANA"
operation_word operation.Xra = codes "XRA"
operation_word operation.Ora = codes "ORA"
operation_word operation.Cmp = codes "CMP"

-- the same with a byte
abbrev pub immediate_word : Operation → List ℕ
immediate_word operation.Add = codes "ADI"
immediate_word operation.Adc = codes "ACI"
immediate_word operation.Sub = codes "SUI"
immediate_word operation.Sbb = codes "SBI"
immediate_word operation.Ana = codes "ANI"
immediate_word operation.Xra = codes "XRI"
immediate_word operation.Ora = codes "ORI"
immediate_word operation.Cmp = codes "CPI"

abbrev pub rotation_word : Rotation → List ℕ
rotation_word rotation.Rlc = codes "RLC"
rotation_word rotation.Rrc = codes "RRC"
rotation_word rotation.Ral = codes "RAL"
rotation_word rotation.Rar = codes "RAR"

-- the n of RST n
abbrev pub vector_word : Vector → List ℕ
vector_word vector.V0 = codes "0"
vector_word vector.V1 = codes "1"
vector_word vector.V2 = codes "2"
vector_word vector.V3 = codes "3"
vector_word vector.V4 = codes "4"
vector_word vector.V5 = codes "5"
vector_word vector.V6 = codes "6"
vector_word vector.V7 = codes "7"

-- ---- instructions

abbrev pub mnemonic : Instr → List ℕ
mnemonic Nop = codes "NOP"
mnemonic (Lxi p w) = codes "LXI"
mnemonic (Stax p) = codes "STAX"
mnemonic (Ldax p) = codes "LDAX"
mnemonic (Shld w) = codes "SHLD"
mnemonic (Lhld w) = codes "LHLD"
mnemonic (Sta w) = codes "STA"
mnemonic (Lda w) = codes "LDA"
mnemonic (Inx p) = codes "INX"
mnemonic (Dcx p) = codes "DCX"
mnemonic (Dad p) = codes "DAD"
mnemonic (Inr r) = codes "INR"
mnemonic (Dcr r) = codes "DCR"
mnemonic (Mvi r b) = codes "MVI"
mnemonic (Rotate o) = rotation_word o
mnemonic Daa = codes "DAA"
mnemonic Cma = codes "CMA"
mnemonic Stc = codes "STC"
mnemonic Cmc = codes "CMC"
mnemonic (Mov r s) = codes "MOV"
mnemonic (MovFromM r) = codes "MOV"
mnemonic (MovToM s) = codes "MOV"
mnemonic Hlt = codes "HLT"
mnemonic (Alu o r) = operation_word o
mnemonic (AluImmediate o b) = immediate_word o
mnemonic (Jmp w) = codes "JMP"
mnemonic (JumpIf c w) = codes "J" ++ condition_word c
mnemonic (Call w) = codes "CALL"
mnemonic (CallIf c w) = codes "C" ++ condition_word c
mnemonic Ret = codes "RET"
mnemonic (RetIf c) = codes "R" ++ condition_word c
mnemonic (Rst n) = codes "RST"
mnemonic (Push p) = codes "PUSH"
mnemonic (Pop p) = codes "POP"
mnemonic Xthl = codes "XTHL"
mnemonic Xchg = codes "XCHG"
mnemonic Pchl = codes "PCHL"
mnemonic Sphl = codes "SPHL"
mnemonic (Out b) = codes "OUT"
mnemonic (In b) = codes "IN"
mnemonic Di = codes "DI"
mnemonic Ei = codes "EI"

-- the operands, from the left
abbrev pub operands : Instr → List (List ℕ)
operands (Lxi p w) = pair_word p ∷ word_text w ∷ []
operands (Stax p) = index_word p ∷ []
operands (Ldax p) = index_word p ∷ []
operands (Shld w) = word_text w ∷ []
operands (Lhld w) = word_text w ∷ []
operands (Sta w) = word_text w ∷ []
operands (Lda w) = word_text w ∷ []
operands (Inx p) = pair_word p ∷ []
operands (Dcx p) = pair_word p ∷ []
operands (Dad p) = pair_word p ∷ []
operands (Inr r) = register_word r ∷ []
operands (Dcr r) = register_word r ∷ []
operands (Mvi r b) = register_word r ∷ byte_text b ∷ []
operands (Mov r s) = register_word (reg_of r) ∷ register_word (reg_of s) ∷ []
operands (MovFromM r) = register_word (reg_of r) ∷ codes "M" ∷ []
operands (MovToM s) = codes "M" ∷ register_word (reg_of s) ∷ []
operands (Alu o r) = register_word r ∷ []
operands (AluImmediate o b) = byte_text b ∷ []
operands (Jmp w) = word_text w ∷ []
operands (JumpIf c w) = word_text w ∷ []
operands (Call w) = word_text w ∷ []
operands (CallIf c w) = word_text w ∷ []
operands (Rst n) = vector_word n ∷ []
operands (Push p) = stack_word p ∷ []
operands (Pop p) = stack_word p ∷ []
operands (Out b) = byte_text b ∷ []
operands (In b) = byte_text b ∷ []
operands _ = []

-- operands after another one
abbrev pub more_operands : List (List ℕ) → List ℕ
more_operands [] = []
more_operands (o ∷ os) = codes "," ++ o ++ more_operands os

-- operands after a mnemonic
abbrev pub operand_field : List (List ℕ) → List ℕ
operand_field [] = []
operand_field (o ∷ os) = codes " " ++ o ++ more_operands os

-- ---- lines

abbrev pub text_of : Shown → List ℕ
text_of (Instruction i) = mnemonic i ++ operand_field (operands i)
text_of (Datum b) = codes "DB " ++ byte_text b

-- the text of the first line of bytes
abbrev pub first_text : List ℕ → List ℕ
first_text bytes = text_of (first_shown bytes).0

abbrev pub text_line : List ℕ → List ℕ
text_line text = text ++ codes "\n"

abbrev pub text_of_lines : List Shown → List ℕ
text_of_lines [] = []
text_of_lines (line ∷ lines) = text_line (text_of line) ++ text_of_lines lines

abbrev pub origin_line : ℕ → List ℕ
origin_line address = text_line (codes "ORG " ++ word_text address)

-- the listing of bytes from this address on; that of no bytes is empty
unfoldable pub listing_of : ℕ → List ℕ → List ℕ
listing_of address [] = []
listing_of address (b ∷ bytes) = origin_line address ++ text_of_lines (lines_of (b ∷ bytes))
