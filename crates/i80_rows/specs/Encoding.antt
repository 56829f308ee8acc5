-- Which bytes are the encoding of an instruction: by the table of rows, and as numbers.
use Rattle.std.specs.Prelude.{◌≡◌, ℕ, ◌+◌, ◌*◌, ◌/◌, ◌%◌, List, [], ◌∷◌, ◌++◌, length, Result, Ok}
use Rattle.i80_base.specs.declared.instruction.Instr.{Instr}
use Rattle.i80_base.specs.declared.instruction.Instr.TheVariants.{Nop, Lxi, Stax, Ldax, Shld, Lhld, Sta, Lda}
use Rattle.i80_base.specs.declared.instruction.Instr.TheVariants.{Inx, Dcx, Dad, Inr, Dcr, Mvi, Rotate, Daa}
use Rattle.i80_base.specs.declared.instruction.Instr.TheVariants.{Cma, Stc, Cmc, Mov, MovFromM, MovToM, Hlt}
use Rattle.i80_base.specs.declared.instruction.Instr.TheVariants.{Alu, AluImmediate, Jmp, JumpIf, Call}
use Rattle.i80_base.specs.declared.instruction.Instr.TheVariants.{CallIf, Ret, RetIf, Rst, Push, Pop, Xthl}
use Rattle.i80_base.specs.declared.instruction.Instr.TheVariants.{Xchg, Pchl, Sphl, Out, In, Di, Ei}
use Rattle.i80_base.specs.declared.instruction.DecodeFault.{DecodeFault}
use Rattle.i80_base.specs.Codes.{reg_of, reg_code, pair_code, stack_pair_code, index_pair_code, cond_code}
use Rattle.i80_base.specs.Codes.{operation_code, rotation_code, vector_code}
use Rattle.i80_base.specs.Rows.{Row, Alone, Byte, Word, row}

-- ---- by the table

-- the row is the instruction's, and the bytes are its operand, low byte first
abbrev pub IsOperand : Row → Instr → List ℕ → Type 0
IsOperand (Alone j) i [] = i ≡ j
IsOperand (Byte f) i (b ∷ []) = i ≡ f b
IsOperand (Word f) i (low ∷ (high ∷ [])) = i ≡ f (low + 256 * high)
IsOperand _ i _ = ⊥

-- The first byte names a row with that mnemonic and those registers, and the others are the operand.
abbrev pub Encodes : Instr → List ℕ → Type 0
Encodes i [] = ⊥
Encodes i (opcode ∷ operand) = IsOperand (row opcode) i operand

-- An instruction that is encoded at the front of the bytes is what was read, whatever follows it.
abbrev pub ReadsEncoded : List ℕ → Result (Instr × ℕ) DecodeFault → Type 0
ReadsEncoded bytes result = (i : Instr) (code rest : List ℕ) → Encodes i code → bytes ≡ code ++ rest
    → result ≡ Ok (i, length code)

-- ---- as numbers (8080 User's Manual, chapter 4)

-- an opcode and a word, low byte first
abbrev pub with_word : ℕ → ℕ → List ℕ
with_word opcode w = opcode ∷ (w % 256 ∷ (w / 256 ∷ []))

-- the opcode with its register, pair or condition, and after it the byte, or the word low byte first
unfoldable pub encoding_of : Instr → List ℕ
encoding_of Nop = 0 ∷ []
encoding_of (Lxi p w) = with_word (16 * pair_code p + 1) w
encoding_of (Stax p) = (16 * index_pair_code p + 2) ∷ []
encoding_of (Ldax p) = (16 * index_pair_code p + 10) ∷ []
encoding_of (Shld w) = with_word 34 w
encoding_of (Lhld w) = with_word 42 w
encoding_of (Sta w) = with_word 50 w
encoding_of (Lda w) = with_word 58 w
encoding_of (Inx p) = (16 * pair_code p + 3) ∷ []
encoding_of (Dcx p) = (16 * pair_code p + 11) ∷ []
encoding_of (Dad p) = (16 * pair_code p + 9) ∷ []
encoding_of (Inr r) = (8 * reg_code r + 4) ∷ []
encoding_of (Dcr r) = (8 * reg_code r + 5) ∷ []
encoding_of (Mvi r b) = (8 * reg_code r + 6) ∷ (b ∷ [])
encoding_of (Rotate o) = (8 * rotation_code o + 7) ∷ []
encoding_of Daa = 39 ∷ []
encoding_of Cma = 47 ∷ []
encoding_of Stc = 55 ∷ []
encoding_of Cmc = 63 ∷ []
encoding_of (Mov r s) = (64 + 8 * reg_code (reg_of r) + reg_code (reg_of s)) ∷ []
encoding_of (MovFromM r) = (70 + 8 * reg_code (reg_of r)) ∷ []
encoding_of (MovToM s) = (112 + reg_code (reg_of s)) ∷ []
encoding_of Hlt = 118 ∷ []
encoding_of (Alu o r) = (128 + 8 * operation_code o + reg_code r) ∷ []
encoding_of (AluImmediate o b) = (198 + 8 * operation_code o) ∷ (b ∷ [])
encoding_of (Jmp w) = with_word 195 w
encoding_of (JumpIf c w) = with_word (194 + 8 * cond_code c) w
encoding_of (Call w) = with_word 205 w
encoding_of (CallIf c w) = with_word (196 + 8 * cond_code c) w
encoding_of Ret = 201 ∷ []
encoding_of (RetIf c) = (192 + 8 * cond_code c) ∷ []
encoding_of (Rst n) = (199 + 8 * vector_code n) ∷ []
encoding_of (Push p) = (197 + 16 * stack_pair_code p) ∷ []
encoding_of (Pop p) = (193 + 16 * stack_pair_code p) ∷ []
encoding_of Xthl = 227 ∷ []
encoding_of Xchg = 235 ∷ []
encoding_of Pchl = 233 ∷ []
encoding_of Sphl = 249 ∷ []
encoding_of (Out b) = 211 ∷ (b ∷ [])
encoding_of (In b) = 219 ∷ (b ∷ [])
encoding_of Di = 243 ∷ []
encoding_of Ei = 251 ∷ []
