-- What the flag byte is, by computation over its 256 values and over the 32 flags.
use Rattle.std.proofs.Common.{◌≡◌, ℕ, ◌*◌, ◌%◌, ◌<◌, ◌≤◌, Bool, true, false, refl, bit_and, bit_or, arith}
use Rattle.std.specs.Int.{from_bool}
use Rattle.i80_base.specs.FlagValues.{flag_byte, flags_of}
use Rattle.i80_base.proofs.Tables.{agree}

pub masked_flags : (x : ℕ) → x < 256 → flags_of (bit_or (bit_and x 215) 2) ≡ flags_of x
masked_flags = agree (λ x. flags_of (bit_or (bit_and x 215) 2)) flags_of 256 refl

pub masked_byte : (x : ℕ) → x < 256 → flag_byte (flags_of (bit_or (bit_and x 215) 2))
    ≡ bit_or (bit_and x 215) 2
masked_byte = agree (λ x. flag_byte (flags_of (bit_or (bit_and x 215) 2))) (λ x. bit_or (bit_and x 215) 2)
    256 refl

from_bool-le : (b : Bool) → from_bool b ≤ 1
from_bool-le true = omega arith
from_bool-le false = omega arith

pub shown_small : (b : ℕ) → flag_byte (flags_of b) ≡ b → b < 256
shown_small b e = let f = flags_of b in
    omega (
      arith,
      e,
      from_bool-le f.s,
      from_bool-le f.z,
      from_bool-le f.ac,
      from_bool-le f.p,
      from_bool-le f.cy,
    )

pub recarried_flags : (b : ℕ) (cy : Bool) → b < 256 → flags_of (bit_or (bit_and b 254) (from_bool cy))
    ≡ record (flags_of b) { cy = cy }
recarried_flags b true h =
    agree (λ b. flags_of (bit_or (bit_and b 254) 1)) (λ b. record (flags_of b) { cy = true }) 256 refl b h
recarried_flags b false h =
    agree (λ b. flags_of (bit_or (bit_and b 254) 0)) (λ b. record (flags_of b) { cy = false }) 256 refl b h

-- the new byte of what a byte shows
pub recarried_byte : (b : ℕ) (cy : Bool) → b < 256
    → flag_byte (flags_of (bit_or (bit_and b 254) (from_bool cy)))
    ≡ bit_or (bit_and (flag_byte (flags_of b)) 254) (from_bool cy)
recarried_byte b true h =
    agree (λ b. flag_byte (flags_of (bit_or (bit_and b 254) 1)))
    (λ b. bit_or (bit_and (flag_byte (flags_of b)) 254) 1) 256 refl b h
recarried_byte b false h =
    agree (λ b. flag_byte (flags_of (bit_or (bit_and b 254) 0)))
    (λ b. bit_or (bit_and (flag_byte (flags_of b)) 254) 0) 256 refl b h
