use Rattle.std.proofs.Common.{◌≡◌, take}
use Rattle.dap_image.specs.Images.{cells_from}
use Rattle.dap_image.proofs.image.cells_from.Given as goal

-- the memory with the bytes so far
abbrev pub invariant-loop-byte : goal.invariant-loop-byte
invariant-loop-byte l = l.cells.items ≡ cells_from l.address (take l.byte-index l.bytes)
