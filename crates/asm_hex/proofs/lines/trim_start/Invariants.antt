use Rattle.std.proofs.Common.{◌≡◌, length}
use Rattle.asm_hex.specs.Contents.{without_blanks}
use Rattle.asm_hex.proofs.lines.trim_start.Given as goal

abbrev pub invariant-loop-first : goal.invariant-loop-first
invariant-loop-first l = without_blanks l.rest ≡ without_blanks l.fn.line

abbrev pub decreases-loop-first : goal.decreases-loop-first
decreases-loop-first l = length l.rest
