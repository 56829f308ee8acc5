use Rattle.std.proofs.Common.{◌≡◌, ◌%◌, ◌^◌, length}
use Rattle.dap_answers.specs.Murmur.{hash_from}
use Rattle.dap_answers.proofs.cell.murmur2.Given as goal

abbrev pub invariant-loop-left : goal.invariant-loop-left
invariant-loop-left l = hash_from l.h l.left ≡ hash_from (length l.bytes % (2 ^ 32)) l.bytes

abbrev pub decreases-loop-left : goal.decreases-loop-left
decreases-loop-left l = length l.left
