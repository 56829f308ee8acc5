use Rattle.std.proofs.Common.{◌≡◌, ◌++◌, drop}
use Rattle.asm_build.specs.Meaning.{at_address}
use Rattle.asm_build.proofs.image.Image.append.Given as goal

abbrev pub invariant-loop-byte : goal.invariant-loop-byte
invariant-loop-byte l =
    l.self ++ at_address l.next (drop l.byte-index l.bytes)
    ≡ l.initial.self ++ at_address l.initial.next l.bytes
