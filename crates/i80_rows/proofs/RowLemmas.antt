-- The code's table of rows is the table of 256 rows.
use Rattle.std.proofs.Common.{◌≡◌, ℕ, ◌<◌, refl}
use Rattle.std.specs.Prelude.{slice_index_or}
use Rattle.i80_rows.specs.declared.decoding.rows.TheConstants.{ROWS}
use Rattle.i80_rows.specs.declared.decoding.rows.Row.TheVariants as held
use Rattle.i80_base.specs.Rows.{row}
use Rattle.i80_rows.specs.TableRows.{row_of}
use Rattle.i80_base.proofs.Tables.{agree}

pub row_held : (opcode : ℕ) → opcode < 256
    → row_of (slice_index_or ROWS opcode held.Undefined) ≡ row opcode
unfolding row
row_held = agree (λ k. row_of (slice_index_or ROWS k held.Undefined)) (λ k. row k) 256 refl
