use Rattle.std.proofs.Common.{◌≡◌, ◌+◌, drop}
use Rattle.asm_hex.specs.Contents.{bytes_at, overlaps}
use Rattle.asm_hex.proofs.contents.Contents.overlaps.Given as goal

-- if one of all overlaps, one of the rest does
abbrev pub invariant-loop-offset : goal.invariant-loop-offset
invariant-loop-offset l =
    overlaps l.self.bytes (bytes_at (l.address + l.offset) (drop l.offset l.bytes))
    ≡ overlaps l.self.bytes (bytes_at l.address l.bytes)
