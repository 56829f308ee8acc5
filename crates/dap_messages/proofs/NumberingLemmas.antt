-- Numbers as editors count them.
use Rattle.std.proofs.Common.{◌≡◌, ℕ, ◌≤◌, Bool, true, false, refl, arith}
use Rattle.dap_messages.specs.Numbering.{number_told, number_meant}

-- an editor means the number of which it was told
pub meant_of_told : (starts_at_1 : Bool) (n : ℕ) → 1 ≤ n → n ≤ 4294967295
    → number_meant starts_at_1 (number_told starts_at_1 n) ≡ n
meant_of_told true n above below = refl
meant_of_told false n above below = omega (arith, above, below)
