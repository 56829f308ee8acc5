-- What encodes an instruction by the table of 256 rows is its encoding in numbers.
use Rattle.std.proofs.Common.{◌≡◌, ◌↔◌, ℕ, ◌+◌, ◌*◌, ◌/◌, ◌%◌, ◌<◌, inl, inr, List, [], ◌∷◌, get_or}
use Rattle.std.proofs.Common.{refl, sym, ap, subst, ◌∙◌, arith}
use Rattle.std.specs.List.{All}
use Rattle.std.proofs.lemmas.Bool.{cases_lt}
use Rattle.std.proofs.lemmas.List.{get_or_past}
use Rattle.i80_base.specs.declared.instruction.Instr.{Instr}
use Rattle.i80_base.specs.Rows.{Row, Undefined, Alone, Byte, Word, row, rows}
use Rattle.i80_rows.specs.Encoding.{Encodes, IsOperand, with_word, encoding_of}
use Rattle.i80_base.proofs.Tables.{agree}
use Rattle.i80_rows.proofs.Encoded.{encoded}

-- the encoding of what a row holds, with this operand
abbrev encoding_in : ℕ → Row → List ℕ
encoding_in n Undefined = []
encoding_in n (Alone j) = encoding_of j
encoding_in n (Byte f) = encoding_of (f n)
encoding_in n (Word f) = encoding_of (f n)

-- the row's opcode, and this operand
abbrev bytes_at : ℕ → ℕ → Row → List ℕ
bytes_at opcode n Undefined = []
bytes_at opcode n (Alone j) = opcode ∷ []
bytes_at opcode n (Byte f) = opcode ∷ (n ∷ [])
bytes_at opcode n (Word f) = with_word opcode n

abbrev Fits : ℕ → Row → Type 0
Fits opcode r = (n : ℕ) → encoding_in n r ≡ bytes_at opcode n r

fits : (opcode : ℕ) → Fits opcode (row opcode)
unfolding row encoding_of
fits opcode = elim (cases_lt opcode 256) [
  | inl low ↦ λ n. agree (λ k. encoding_in n (row k)) (λ k. bytes_at k n (row k)) 256 refl opcode low
  | inr past ↦ λ n. rw (get_or_past rows opcode Undefined past) refl
]

by_row : (r : Row) (i : Instr) (opcode : ℕ) (operand : List ℕ) → Fits opcode r → get_or operand 0 0 < 256
    → IsOperand r i operand → opcode ∷ operand ≡ encoding_of i
by_row (Alone j) i opcode [] fit small h = sym (ap encoding_of h ∙ fit 0)
by_row (Byte f) i opcode (b ∷ []) fit small h = sym (ap encoding_of h ∙ fit b)
by_row (Word f) i opcode (low ∷ (high ∷ [])) fit small h =
    let first : low ≡ (low + 256 * high) % 256 = omega (arith, small) in
    let second : high ≡ (low + 256 * high) / 256 = omega (arith, small) in
    ap (λ n. opcode ∷ (n ∷ (high ∷ []))) first
    ∙ ap (λ n. opcode ∷ ((low + 256 * high) % 256 ∷ (n ∷ []))) second
    ∙ sym (ap encoding_of h ∙ fit (low + 256 * high))
by_row _ i opcode _ fit small h = absurd h

pub encoding_is : (i : Instr) (bytes : List ℕ) → Encodes i bytes → get_or bytes 1 0 < 256
    → bytes ≡ encoding_of i
encoding_is i [] h small = absurd h
encoding_is i (opcode ∷ operand) h small = by_row (row opcode) i opcode operand (fits opcode) small h

-- ---- of bytes there is no other

second_small : (bytes : List ℕ) → All (λ b. b < 256) bytes → get_or bytes 1 0 < 256
second_small [] all = omega arith
second_small (a ∷ []) all = omega arith
second_small (a ∷ (b ∷ bytes)) all = all 1 0 (omega arith)

pub encoding_only : (i : Instr) (bytes : List ℕ) → All (λ b. b < 256) bytes
    → Encodes i bytes ↔ (bytes ≡ encoding_of i)
encoding_only i bytes all =
    (λ h. encoding_is i bytes h (second_small bytes all), λ e. subst (Encodes i) (sym e) (encoded i))
