-- Numbers in frames.
use Rattle.std.specs.Prelude.{ℕ, ◌==◌, nat_le, length, Option, Some, None, if◌then◌else◌}
use Rattle.std.specs.Int.{w64, from_be_bytes}
use Rattle.base_text.specs.Bytes.{Bytes}

-- eight bytes, most significant first
abbrev pub number_in : Bytes → Option ℕ
number_in frame = if length frame == 8 then Some (from_be_bytes w64 frame) else None

-- the connection with a number: there is none from 2 ^ 32 on
abbrev pub connection_of : ℕ → Option ℕ
connection_of number = if nat_le number 4294967295 then Some number else None
