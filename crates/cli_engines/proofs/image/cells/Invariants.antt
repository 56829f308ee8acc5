use Rattle.std.proofs.Common.{◌≡◌, length, drop}
use Rattle.cli_engines.specs.Image.{fill, cells_of}
use Rattle.cli_engines.proofs.image.cells.Given as goal

-- the rest of the image still has to be filled in
abbrev pub invariant-loop-address : goal.invariant-loop-address
invariant-loop-address l = record {
  count : length l.cells.items ≡ 65536;
  same : fill (drop l.address-index l.image) l.cells.items ≡ cells_of l.image;
}
