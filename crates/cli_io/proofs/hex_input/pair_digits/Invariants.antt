use Rattle.std.proofs.Common.{length}
use Rattle.cli_io.proofs.HexLemmas.{IsPaired}
use Rattle.cli_io.proofs.hex_input.pair_digits.Given as goal

abbrev pub invariant-loop-rest : goal.invariant-loop-rest
invariant-loop-rest l = IsPaired l.digits l.bytes.items l.rest

abbrev pub decreases-loop-rest : goal.decreases-loop-rest
decreases-loop-rest l = length l.rest
