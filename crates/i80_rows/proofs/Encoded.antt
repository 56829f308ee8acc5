-- The encoding in numbers encodes its instruction by the table of 256 rows.
use Rattle.std.proofs.Common.{◌≡◌, ℕ, ◌+◌, ◌*◌, ◌/◌, ◌%◌, [], ◌∷◌, refl, ap, arith}
use Rattle.i80_base.specs.declared.instruction.Instr.{Instr}
use Rattle.i80_base.specs.declared.instruction.Instr.TheVariants.{Lxi, Stax, Ldax, Shld, Lhld, Sta, Lda, Inx}
use Rattle.i80_base.specs.declared.instruction.Instr.TheVariants.{Dcx, Dad, Inr, Dcr, Mvi, Rotate, Mov}
use Rattle.i80_base.specs.declared.instruction.Instr.TheVariants.{MovFromM, MovToM, Alu, AluImmediate, Jmp}
use Rattle.i80_base.specs.declared.instruction.Instr.TheVariants.{JumpIf, Call, CallIf, RetIf, Rst, Push, Pop}
use Rattle.i80_base.specs.declared.instruction.Reg.{Reg}
use Rattle.i80_base.specs.declared.instruction.Register.{Register}
use Rattle.i80_base.specs.declared.instruction.Register.TheVariants as register
use Rattle.i80_base.specs.declared.instruction.Pair.{Pair}
use Rattle.i80_base.specs.declared.instruction.Cond.{Cond}
use Rattle.i80_base.specs.declared.instruction.Operation.{Operation}
use Rattle.i80_base.specs.declared.instruction.Operation.TheVariants as operation
use Rattle.i80_base.specs.Codes.{pair_code, cond_code}
use Rattle.i80_base.specs.Rows.{Row, Word, row}
use Rattle.i80_rows.specs.Encoding.{Encodes, IsOperand, encoding_of}
use Rattle.i80_rows.proofs.Each.{each_reg, each_register, each_pair, each_index, each_stack, each_cond}
use Rattle.i80_rows.proofs.Each.{each_operation, each_rotation, each_vector}

abbrev IsEncoded : Instr → Type 0
IsEncoded i = Encodes i (encoding_of i)

whole : (w : ℕ) → w ≡ w % 256 + 256 * (w / 256)
whole w = omega arith

moved : (to from : Register) → IsEncoded (Mov to from)
unfolding row encoding_of
moved = each_register _
    (each_register (λ from. IsEncoded (Mov register.B from)) refl refl refl refl refl refl refl)
    (each_register (λ from. IsEncoded (Mov register.C from)) refl refl refl refl refl refl refl)
    (each_register (λ from. IsEncoded (Mov register.D from)) refl refl refl refl refl refl refl)
    (each_register (λ from. IsEncoded (Mov register.E from)) refl refl refl refl refl refl refl)
    (each_register (λ from. IsEncoded (Mov register.H from)) refl refl refl refl refl refl refl)
    (each_register (λ from. IsEncoded (Mov register.L from)) refl refl refl refl refl refl refl)
    (each_register (λ from. IsEncoded (Mov register.A from)) refl refl refl refl refl refl refl)

calculated : (o : Operation) (r : Reg) → IsEncoded (Alu o r)
unfolding row encoding_of
calculated = each_operation _
    (each_reg (λ r. IsEncoded (Alu operation.Add r)) refl refl refl refl refl refl refl refl)
    (each_reg (λ r. IsEncoded (Alu operation.Adc r)) refl refl refl refl refl refl refl refl)
    (each_reg (λ r. IsEncoded (Alu operation.Sub r)) refl refl refl refl refl refl refl refl)
    (each_reg (λ r. IsEncoded (Alu operation.Sbb r)) refl refl refl refl refl refl refl refl)
    (each_reg (λ r. IsEncoded (Alu operation.Ana r)) refl refl refl refl refl refl refl refl)
    (each_reg (λ r. IsEncoded (Alu operation.Xra r)) refl refl refl refl refl refl refl refl)
    (each_reg (λ r. IsEncoded (Alu operation.Ora r)) refl refl refl refl refl refl refl refl)
    (each_reg (λ r. IsEncoded (Alu operation.Cmp r)) refl refl refl refl refl refl refl refl)

-- a row with a word encodes each word
word_encoded : (r : Row) (f : ℕ → Instr) (w : ℕ) → r ≡ Word f → IsOperand r (f w) (w % 256 ∷ (w / 256 ∷ []))
word_encoded r f w is = rw is (ap f (whole w))

lxi_row : (p : Pair) → row (16 * pair_code p + 1) ≡ Word (Lxi p)
unfolding row
lxi_row = each_pair _ refl refl refl refl

jump_row : (c : Cond) → row (194 + 8 * cond_code c) ≡ Word (JumpIf c)
unfolding row
jump_row = each_cond _ refl refl refl refl refl refl refl refl

call_row : (c : Cond) → row (196 + 8 * cond_code c) ≡ Word (CallIf c)
unfolding row
call_row = each_cond _ refl refl refl refl refl refl refl refl

pub encoded : (i : Instr) → Encodes i (encoding_of i)
unfolding row encoding_of
encoded (Shld w) = ap Shld (whole w)
encoded (Lhld w) = ap Lhld (whole w)
encoded (Sta w) = ap Sta (whole w)
encoded (Lda w) = ap Lda (whole w)
encoded (Jmp w) = ap Jmp (whole w)
encoded (Call w) = ap Call (whole w)
encoded (Inx p) = each_pair (λ q. IsEncoded (Inx q)) refl refl refl refl p
encoded (Dcx p) = each_pair (λ q. IsEncoded (Dcx q)) refl refl refl refl p
encoded (Dad p) = each_pair (λ q. IsEncoded (Dad q)) refl refl refl refl p
encoded (Inr r) = each_reg (λ s. IsEncoded (Inr s)) refl refl refl refl refl refl refl refl r
encoded (Dcr r) = each_reg (λ s. IsEncoded (Dcr s)) refl refl refl refl refl refl refl refl r
encoded (Mvi r b) = each_reg (λ s. IsEncoded (Mvi s b)) refl refl refl refl refl refl refl refl r
encoded (MovFromM r) = each_register (λ s. IsEncoded (MovFromM s)) refl refl refl refl refl refl refl r
encoded (MovToM r) = each_register (λ s. IsEncoded (MovToM s)) refl refl refl refl refl refl refl r
encoded (AluImmediate o b) =
    each_operation (λ p. IsEncoded (AluImmediate p b)) refl refl refl refl refl refl refl refl o
encoded (RetIf c) = each_cond (λ d. IsEncoded (RetIf d)) refl refl refl refl refl refl refl refl c
encoded (Lxi p w) = word_encoded (row (16 * pair_code p + 1)) (Lxi p) w (lxi_row p)
encoded (Mov to from) = moved to from
encoded (Alu o r) = calculated o r
encoded (Rotate o) = each_rotation (λ p. IsEncoded (Rotate p)) refl refl refl refl o
encoded (Rst n) = each_vector (λ m. IsEncoded (Rst m)) refl refl refl refl refl refl refl refl n
encoded (Push p) = each_stack (λ q. IsEncoded (Push q)) refl refl refl refl p
encoded (Pop p) = each_stack (λ q. IsEncoded (Pop q)) refl refl refl refl p
encoded (Stax p) = each_index (λ q. IsEncoded (Stax q)) refl refl p
encoded (Ldax p) = each_index (λ q. IsEncoded (Ldax q)) refl refl p
encoded (JumpIf c w) = word_encoded (row (194 + 8 * cond_code c)) (JumpIf c) w (jump_row c)
encoded (CallIf c w) = word_encoded (row (196 + 8 * cond_code c)) (CallIf c) w (call_row c)
encoded _ = refl
