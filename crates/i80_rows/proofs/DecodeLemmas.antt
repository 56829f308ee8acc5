-- What the table reads off the front of bytes is what encodes an instruction there.
use Rattle.std.proofs.Common.{
  ◌≡◌,
  ℕ,
  suc,
  ◌+◌,
  ◌*◌,
  List,
  [],
  ◌∷◌,
  ◌++◌,
  length,
  take,
  Ok,
  IfOk,
  refl,
  ap,
  sym,
  subst,
}
use Rattle.i80_base.specs.declared.instruction.Instr.{Instr}
use Rattle.i80_base.specs.Rows.{Row, Alone, Byte, Word, first_instruction, read_row, row}
use Rattle.i80_rows.specs.Encoding.{Encodes, IsOperand}

-- what a row reads after its opcode, the row encodes
row_found : (w : Row) (opcode : ℕ) (rest : List ℕ) → row opcode ≡ w
    → IfOk (read_row w rest) (λ p. Encodes p.0 (take p.1 (opcode ∷ rest)))
row_found (Alone j) opcode rest e = subst (λ (w : Row). IsOperand w j []) (sym e) refl
row_found (Byte f) opcode (b ∷ rest) e = subst (λ (w : Row). IsOperand w (f b) (b ∷ [])) (sym e) refl
row_found (Word f) opcode (low ∷ (high ∷ rest)) e =
    subst (λ (w : Row). IsOperand w (f (low + 256 * high)) (low ∷ (high ∷ []))) (sym e) refl
row_found _ opcode _ e = tt

pub read_found : (bytes : List ℕ) → IfOk (first_instruction bytes) (λ p. Encodes p.0 (take p.1 bytes))
read_found [] = tt
read_found (opcode ∷ rest) = row_found (row opcode) opcode rest refl

-- the operand of an instruction is read, whatever follows it
operand_read : (w : Row) (i : Instr) (operand rest : List ℕ) → IsOperand w i operand
    → read_row w (operand ++ rest) ≡ Ok (i, suc (length operand))
operand_read (Alone j) i [] rest h = ap (λ (k : Instr). Ok (k, 1)) (sym h)
operand_read (Byte f) i (b ∷ []) rest h = ap (λ (k : Instr). Ok (k, 2)) (sym h)
operand_read (Word f) i (low ∷ (high ∷ [])) rest h = ap (λ (k : Instr). Ok (k, 3)) (sym h)
operand_read _ i _ rest h = absurd h

pub encoded_read : (i : Instr) (code rest : List ℕ) → Encodes i code
    → first_instruction (code ++ rest) ≡ Ok (i, length code)
encoded_read i [] rest h = absurd h
encoded_read i (opcode ∷ operand) rest h = operand_read (row opcode) i operand rest h
