use Rattle.std.proofs.Common.{◌≡◌, length}
use Rattle.cli_hex.specs.Binary.{from_first}
use Rattle.cli_hex.proofs.binary.from_first.Given as goal

abbrev pub invariant-loop-first : goal.invariant-loop-first
invariant-loop-first l = from_first l.rest ≡ from_first l.fn.cells

abbrev pub decreases-loop-first : goal.decreases-loop-first
decreases-loop-first l = length l.rest
