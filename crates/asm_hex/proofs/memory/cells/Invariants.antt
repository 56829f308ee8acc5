use Rattle.std.proofs.Common.{◌≡◌, length, drop}
use Rattle.asm_hex.specs.Cells.{fill, cells_of}
use Rattle.asm_hex.proofs.memory.cells.Given as goal

-- the rest of the bytes still has to be filled in
abbrev pub invariant-loop-address : goal.invariant-loop-address
invariant-loop-address l = record {
  count : length l.cells.items ≡ 65536;
  same : fill (drop l.address-index l.bytes) l.cells.items ≡ cells_of l.bytes;
}
