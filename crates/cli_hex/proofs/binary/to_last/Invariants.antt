use Rattle.std.proofs.Common.{◌≡◌, length}
use Rattle.cli_hex.specs.Binary.{to_last}
use Rattle.cli_hex.proofs.binary.to_last.Given as goal

abbrev pub invariant-loop-last : goal.invariant-loop-last
invariant-loop-last l = to_last l.rest ≡ to_last l.fn.cells

abbrev pub decreases-loop-last : goal.decreases-loop-last
decreases-loop-last l = length l.rest
