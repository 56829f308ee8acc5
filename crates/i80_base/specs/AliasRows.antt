-- What the twelve opcodes that Intel's table leaves undefined do on a board with aliases: a real 8080 decodes
-- them as copies of others, which emulators list too (MAME's i8085 core, in its i8080 tables: nop, jmp, ret,
-- call). Then the table of a board, and what bytes read as by it.
use Rattle.std.specs.Prelude.{ℕ, List, [], ◌∷◌, Result, Err, ◌==◌, if◌then◌else◌, Bool, true, false}
use Rattle.i80_base.specs.declared.board.Board.{Board}
use Rattle.i80_base.specs.declared.board.Board.TheVariants.{Strict, Aliases}
use Rattle.i80_base.specs.declared.instruction.Instr.{Instr}
use Rattle.i80_base.specs.declared.instruction.Instr.TheVariants.{Nop, Jmp, Call, Ret}
use Rattle.i80_base.specs.declared.instruction.DecodeFault.{DecodeFault}
use Rattle.i80_base.specs.declared.instruction.DecodeFault.TheVariants as fault
use Rattle.i80_base.specs.Rows.{Row, Undefined, Alone, Byte, Word, row, read_row}

-- 08, 10, 18, 20, 28, 30 and 38 are NOP; CB is JMP; D9 is RET; DD, ED and FD are CALL
abbrev pub aliases : List (ℕ × Row)
aliases =
    (8, Alone Nop) ∷ (16, Alone Nop) ∷ (24, Alone Nop) ∷ (32, Alone Nop) ∷ (40, Alone Nop) ∷
    (48, Alone Nop) ∷ (56, Alone Nop) ∷ (203, Word Jmp) ∷ (217, Alone Ret) ∷ (221, Word Call) ∷
    (237, Word Call) ∷ (253, Word Call) ∷ []

-- the row that a list names for an opcode
abbrev pub row_in : List (ℕ × Row) → ℕ → Row
row_in [] opcode = Undefined
row_in ((alias, r) ∷ rest) opcode = if opcode == alias then r else row_in rest opcode

unfoldable pub alias_row : ℕ → Row
alias_row opcode = row_in aliases opcode

-- whether the twelve act on a board
abbrev pub acts : Board → Bool
acts Strict = false
acts Aliases = true

-- what an undefined opcode with this alias is on a board
abbrev pub undefined_on : Board → Row → Row
undefined_on board alias = if acts board then alias else Undefined

-- a defined row is the same on every board
abbrev pub or_alias : Row → Board → Row → Row
or_alias Undefined board alias = undefined_on board alias
or_alias (Alone i) board alias = Alone i
or_alias (Byte f) board alias = Byte f
or_alias (Word f) board alias = Word f

-- the table of a board
abbrev pub row_on : Board → ℕ → Row
row_on board opcode = or_alias (row opcode) board (alias_row opcode)

-- what bytes begin with
abbrev pub read_on : Board → List ℕ → Result (Instr × ℕ) DecodeFault
read_on board [] = Err (fault.Short 1)
read_on board (opcode ∷ rest) = read_row (row_on board opcode) rest
