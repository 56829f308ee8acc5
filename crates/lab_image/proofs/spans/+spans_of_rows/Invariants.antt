use Rattle.std.proofs.Common.{length}
use Rattle.lab_image.proofs.spans.+spans_of_rows.Given as goal

abbrev pub decreases-spans_of_rows : goal.decreases-spans_of_rows
decreases-spans_of_rows l = length l.rows.now
