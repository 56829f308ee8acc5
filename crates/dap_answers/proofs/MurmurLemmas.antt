-- One step of the hash, over four bytes.
use Rattle.std.proofs.Common.{◌≡◌, ℕ, ◌≤◌, List, [], ◌∷◌, length, take, drop, bit_xor, refl, arith}
use Rattle.dap_answers.specs.Murmur.{times_m, mix_word, low_first, hash_from}

pub hash_from_four : (h : ℕ) (bytes : List ℕ) → 4 ≤ length bytes
    → hash_from (bit_xor (times_m h) (mix_word (low_first (take 4 bytes)))) (drop 4 bytes)
    ≡ hash_from h bytes
hash_from_four h [] long = absurd (omega arith)
hash_from_four h (a ∷ []) long = absurd (omega arith)
hash_from_four h (a ∷ b ∷ []) long = absurd (omega arith)
hash_from_four h (a ∷ b ∷ c ∷ []) long = absurd (omega arith)
hash_from_four h (a ∷ b ∷ c ∷ d ∷ bytes) long = refl
