use Rattle.std.proofs.Common.{◌≡◌, drop}
use Rattle.asm_build.specs.Meaning.{at_address, overlaps}
use Rattle.asm_build.proofs.image.Image.overlaps.Given as goal

abbrev pub invariant-loop : goal.invariant-loop
invariant-loop l =
    overlaps l.self (at_address l.next (drop l.index l.bytes))
    ≡ overlaps l.self (at_address l.initial.next l.bytes)
