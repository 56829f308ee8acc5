-- What the lines of a listing show: each an instruction, or a byte that isn't the opcode of one.
use Rattle.std.specs.Prelude.{◌≡◌, ◌<◌, ◌⊎◌, ℕ, zero, suc, ◌-◌, List, [], ◌∷◌, ◌++◌, length, map, Bool, true}
use Rattle.std.specs.Prelude.{false, Option, Some, None, Result, Ok, Err, if◌then◌else◌}
use Rattle.i80_base.specs.declared.instruction.Instr.{Instr}
use Rattle.i80_base.specs.declared.instruction.DecodeFault.{DecodeFault}
use Rattle.i80_base.specs.declared.instruction.DecodeFault.TheVariants as fault
use Rattle.i80_base.specs.Rows.{Row, Undefined, Alone, Byte, Word, row, first_instruction}
use Rattle.i80_rows.specs.Encoding.{Encodes, encoding_of}
use Rattle.i80_dis.specs.declared.line.Shown.{Shown}
use Rattle.i80_dis.specs.declared.line.Shown.TheVariants.{Instruction, Datum}

-- ---- which lines are those of bytes

-- the number of bytes of an instruction of a row
abbrev pub length_in : Row → ℕ
length_in Undefined = 1
length_in (Alone i) = 1
length_in (Byte f) = 2
length_in (Word f) = 3

-- the bytes end before their first instruction does
abbrev pub IsCutOff : List ℕ → Type 0
IsCutOff [] = ⊥
IsCutOff (opcode ∷ rest) = length (opcode ∷ rest) < length_in (row opcode)

-- The lines' bytes, one after the other, are these. An undefined opcode has a line of its own; if an
-- instruction is cut off, so has each byte that is left.
abbrev pub Lists : List ℕ → List Shown → Type 0
Lists bytes [] = bytes ≡ []
Lists bytes (Instruction i ∷ lines) =
    (code : List ℕ) × (rest : List ℕ) × (bytes ≡ code ++ rest) × Encodes i code × Lists rest lines
Lists bytes (Datum b ∷ lines) =
    (rest : List ℕ) × (bytes ≡ b ∷ rest)
    × (((row b ≡ Undefined) × Lists rest lines) ⊎ (IsCutOff bytes × (lines ≡ map Datum rest)))

-- the bytes that a line shows
abbrev pub bytes_shown : Shown → List ℕ
bytes_shown (Instruction i) = encoding_of i
bytes_shown (Datum b) = b ∷ []

-- ---- the same, read off the table

abbrev pub is_cut_off : Result (Instr × ℕ) DecodeFault → Bool
is_cut_off (Err (fault.Short needed)) = true
is_cut_off _ = false

-- what the first line of bytes shows, the first of which is this, and how many of them
abbrev pub shown_by : ℕ → Result (Instr × ℕ) DecodeFault → Shown × ℕ
shown_by opcode (Ok (i, n)) = (Instruction i, n)
shown_by opcode (Err f) = (Datum opcode, 1)

abbrev pub first_shown : List ℕ → Shown × ℕ
first_shown [] = (Datum 0, 1)
first_shown (opcode ∷ rest) = shown_by opcode (first_instruction (opcode ∷ rest))

-- the same, but nothing where they are cut off
abbrev pub next_shown : List ℕ → Option (Shown × ℕ)
next_shown bytes = if is_cut_off (first_instruction bytes) then None else Some (first_shown bytes)

-- the lines, where the first bytes belong to a line before
unfoldable pub lines_from : ℕ → List ℕ → List Shown
lines_from skip [] = []
lines_from (suc skip) (b ∷ rest) = lines_from skip rest
lines_from zero (b ∷ rest) =
    if is_cut_off (first_instruction (b ∷ rest)) then map Datum (b ∷ rest)
    else (first_shown (b ∷ rest)).0 ∷ lines_from ((first_shown (b ∷ rest)).1 - 1) rest

abbrev pub lines_of : List ℕ → List Shown
lines_of bytes = lines_from 0 bytes
