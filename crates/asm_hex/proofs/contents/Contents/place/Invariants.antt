use Rattle.std.proofs.Common.{◌≡◌, ◌++◌, take}
use Rattle.asm_hex.specs.Contents.{bytes_at}
use Rattle.asm_hex.proofs.contents.Contents.place.Given as goal

-- the bytes so far are added
abbrev pub invariant-loop-offset : goal.invariant-loop-offset
invariant-loop-offset l = record {
  bytes : l.self.bytes ≡ l.fn.self.bytes ++ bytes_at l.address (take l.offset l.bytes);
  end : l.self.end_address ≡ l.fn.self.end_address;
}
