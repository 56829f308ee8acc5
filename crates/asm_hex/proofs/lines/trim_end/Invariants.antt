use Rattle.std.proofs.Common.{◌≡◌, length, reverse}
use Rattle.asm_hex.specs.Contents.{without_blanks}
use Rattle.asm_hex.proofs.lines.trim_end.Given as goal

abbrev pub invariant-loop-last : goal.invariant-loop-last
invariant-loop-last l = reverse (without_blanks (reverse l.rest))
    ≡ reverse (without_blanks (reverse l.fn.line))

abbrev pub decreases-loop-last : goal.decreases-loop-last
decreases-loop-last l = length l.rest
