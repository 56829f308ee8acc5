-- The five flags, the flag byte, and which flags a byte shows.
use Rattle.std.specs.Prelude.{ℕ, ◌+◌, ◌*◌, ◌/◌, ◌%◌, ◌^◌, Bool, ◌==◌}
use Rattle.std.specs.Int.{from_bool}

-- sign, zero, auxiliary carry, even parity, carry
pub record FlagValues : Type 0 where
  pub s : Bool
  pub z : Bool
  pub ac : Bool
  pub p : Bool
  pub cy : Bool

-- S is bit 7, Z bit 6, AC bit 4, P bit 2 and CY bit 0; bits 5 and 3 are 0, and bit 1 is 1
abbrev pub flag_byte : FlagValues → ℕ
flag_byte f = 128 * from_bool f.s + 64 * from_bool f.z + 16 * from_bool f.ac + 4 * from_bool f.p + 2
    + from_bool f.cy

-- binary digit k of x
abbrev pub digit : ℕ → ℕ → ℕ
digit x k = x / 2 ^ k % 2

abbrev pub is_set : ℕ → ℕ → Bool
is_set x k = digit x k == 1

-- the flags that a byte shows; its bits 5, 3 and 1 are ignored
abbrev pub flags_of : ℕ → FlagValues
flags_of x = record { s = is_set x 7; z = is_set x 6; ac = is_set x 4; p = is_set x 2; cy = is_set x 0 }
