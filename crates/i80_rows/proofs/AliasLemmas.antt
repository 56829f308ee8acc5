-- On a strict board the table is that of 256 rows.
use Rattle.std.proofs.Common.{◌≡◌, ℕ, List, [], ◌∷◌, refl}
use Rattle.i80_base.specs.declared.board.Board.TheVariants.{Strict}
use Rattle.i80_base.specs.Rows.{Row, Undefined, Alone, Byte, Word, first_instruction, row}
use Rattle.i80_base.specs.AliasRows.{alias_row, or_alias, read_on}

strict-row : (r alias : Row) → or_alias r Strict alias ≡ r
strict-row Undefined alias = refl
strict-row (Alone i) alias = refl
strict-row (Byte f) alias = refl
strict-row (Word f) alias = refl

pub strict-read : (bytes : List ℕ) → read_on Strict bytes ≡ first_instruction bytes
strict-read [] = refl
strict-read (opcode ∷ rest) = rw (strict-row (row opcode) (alias_row opcode)) refl
