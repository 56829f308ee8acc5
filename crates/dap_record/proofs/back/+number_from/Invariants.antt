use Rattle.std.proofs.Common.{length}
use Rattle.dap_record.proofs.back.+number_from.Given as goal

abbrev pub decreases-number_from : goal.decreases-number_from
decreases-number_from l = length l.text.now
