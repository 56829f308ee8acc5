use Rattle.std.proofs.Common.{◌≡◌, ◌+◌, drop, length}
use Rattle.asm_hex.specs.Written.{leading}
use Rattle.asm_hex.proofs.writing.count_leading.Given as goal

abbrev pub invariant-loop-cell : goal.invariant-loop-cell
invariant-loop-cell l = record {
  index : l.count ≡ l.cell-index;
  count : l.count + length (leading (drop l.cell-index l.cells)) ≡ length (leading l.cells);
}
