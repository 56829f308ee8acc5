use Rattle.std.proofs.Common.{◌≡◌, ◌++◌, length, option_map}
use Rattle.asm_hex.specs.Record.{bytes_spelled}
use Rattle.asm_hex.proofs.record.read_pairs.Given as goal

-- the bytes so far, and then those of the rest
abbrev pub invariant-loop-rest : goal.invariant-loop-rest
invariant-loop-rest l =
    option_map (λ more. l.bytes.items ++ more) (bytes_spelled l.rest) ≡ bytes_spelled l.fn.digits

abbrev pub decreases-loop-rest : goal.decreases-loop-rest
decreases-loop-rest l = length l.rest
