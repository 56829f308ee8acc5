use Rattle.std.proofs.Common.{◌≡◌, min, sum, map, take}
use Rattle.asm_encode.specs.Lengths.{length_of_datum}
use Rattle.asm_encode.proofs.length.length_of_data.Given as goal

abbrev pub invariant-loop-datum : goal.invariant-loop-datum
invariant-loop-datum l =
    l.length ≡ min (sum (map length_of_datum (take l.datum-index l.items))) 18446744073709551615
