use Rattle.std.proofs.Common.{◌≡◌, take}
use Rattle.cli_hex.specs.Binary.{plain_bytes}
use Rattle.cli_hex.proofs.binary.plain_bytes.Given as goal

-- the bytes of the cells so far
abbrev pub invariant-loop-cell : goal.invariant-loop-cell
invariant-loop-cell l = l.bytes.items ≡ plain_bytes (take l.cell-index l.cells)
