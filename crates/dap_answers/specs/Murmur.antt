-- The path of a cell: MurmurHash2 (A. Appleby; 32 bits, seed 0) of its text, all modulo 2^32.
use Rattle.std.specs.Prelude.{
  ℕ,
  ◌+◌,
  ◌*◌,
  ◌/◌,
  ◌%◌,
  ◌^◌,
  [],
  ◌∷◌,
  ◌++◌,
  length,
  bit_xor,
  codes,
  decimal,
}
use Rattle.base_text.specs.Bytes.{Bytes, Text}

-- multiplied by the algorithm's m
unfoldable pub times_m : ℕ → ℕ
times_m n = (n * 0x5bd1e995) % (2 ^ 32)

-- the number of bytes in little-endian order
abbrev pub low_first : Bytes → ℕ
low_first [] = 0
low_first (byte ∷ bytes) = byte + 256 * low_first bytes

abbrev pub xor_shifted : ℕ → ℕ → ℕ
xor_shifted bits n = bit_xor n (n / 2 ^ bits)

unfoldable pub mix_word : ℕ → ℕ
mix_word k = times_m (xor_shifted 24 (times_m k))

-- after the hash so far: four bytes at a time, and then the one, two or three that are left
abbrev pub hash_from : ℕ → Bytes → ℕ
hash_from h [] = h
hash_from h (a ∷ []) = times_m (bit_xor h (low_first (a ∷ [])))
hash_from h (a ∷ b ∷ []) = times_m (bit_xor h (low_first (a ∷ b ∷ [])))
hash_from h (a ∷ b ∷ c ∷ []) = times_m (bit_xor h (low_first (a ∷ b ∷ c ∷ [])))
hash_from h (a ∷ b ∷ c ∷ d ∷ bytes) =
    hash_from (bit_xor (times_m h) (mix_word (low_first (a ∷ b ∷ c ∷ d ∷ [])))) bytes

unfoldable pub final_mix : ℕ → ℕ
final_mix h = xor_shifted 15 (times_m (xor_shifted 13 h))

-- it begins with the length, under the seed 0
abbrev pub murmur2 : Bytes → ℕ
murmur2 bytes = final_mix (hash_from (length bytes % (2 ^ 32)) bytes)

abbrev pub cell_path : Text → Text
cell_path code = codes "/tmp/i8080_lab/" ++ (decimal (murmur2 code) ++ codes ".asm")
