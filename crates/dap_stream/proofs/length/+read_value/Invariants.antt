use Rattle.std.proofs.Common.{length}
use Rattle.dap_stream.proofs.length.+read_value.Given as goal

abbrev pub decreases-read_value : goal.decreases-read_value
decreases-read_value l = length l.bytes.now
