use Rattle.std.proofs.Common.{◌≡◌, length}
use Rattle.lab_image.specs.Mapped.{firsts_of}
use Rattle.lab_image.proofs.mapped.next_mapped.Given as goal

-- the spans so far map nothing
abbrev pub invariant-loop-span : goal.invariant-loop-span
invariant-loop-span l = firsts_of l.left ≡ firsts_of l.spans

abbrev pub decreases-loop-span : goal.decreases-loop-span
decreases-loop-span l = length l.left
