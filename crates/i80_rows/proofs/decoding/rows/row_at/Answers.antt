use Rattle.i80_rows.proofs.RowLemmas.{row_held}
use Rattle.i80_rows.proofs.decoding.rows.row_at.Goals as goal

pub returns : goal.returns
returns c = row_held c.args.opcode c.ranges.opcode.fits
