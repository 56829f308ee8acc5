-- The greeting (RFC 23): signature FF, 8 padding bytes, 7F; version, major and minor; mechanism, 20 bytes;
-- as-server, one byte; filler, 31 bytes.
use Rattle.std.specs.Prelude.{◌≡◌, ℕ, ◌+◌, ◌==◌, ◌&&◌, nat_le, nat_lt, if◌then◌else◌, Option, Some, None}
use Rattle.std.specs.Prelude.{[], ◌∷◌, length}
use Rattle.zmtp_wire.specs.Wire.{Bytes}
use Rattle.zmtp_wire.specs.declared.fault.StreamFault.{StreamFault}
use Rattle.zmtp_wire.specs.declared.fault.StreamFault.TheVariants.{Signature, Version, Mechanism}

-- the letter `N`
abbrev pub letter_n : ℕ
letter_n = 78

-- the letter `U`
abbrev pub letter_u : ℕ
letter_u = 85

-- the letter `L`
abbrev pub letter_l : ℕ
letter_l = 76

-- the byte that the mechanism NULL, filled with zeros, has at this place of the greeting
abbrev pub mechanism_byte : ℕ → ℕ
mechanism_byte place =
    if place == 12 then letter_n else
    (if place == 13 then letter_u else
    (if place == 14 then letter_l else
    (if place == 15 then letter_l else 0)))

-- why a byte of the mechanism is wrong
abbrev pub mechanism_broken : ℕ → ℕ → Option StreamFault
mechanism_broken place byte = if byte == mechanism_byte place then None else Some Mechanism

-- what a byte at this place of a greeting breaks: padding, minor version, as-server and filler are free
unfoldable pub broken_by : ℕ → ℕ → Option StreamFault
broken_by place byte =
    if place == 0 then (if byte == 255 then None else Some Signature) else
    (if place == 9 then (if byte == 127 then None else Some Signature) else
    (if place == 10 then (if nat_lt byte 3 then Some Version else None) else
    (if nat_le 12 place && nat_lt place 32 then mechanism_broken place byte else None)))

-- the first cause, else the other
abbrev pub or_else : Option StreamFault → Option StreamFault → Option StreamFault
or_else (Some cause) other = Some cause
or_else None other = other

-- what the first wrong byte breaks, if there is one; the bytes begin at this place of the greeting
abbrev pub first_broken : ℕ → Bytes → Option StreamFault
first_broken place [] = None
first_broken place (byte ∷ bytes) = or_else (broken_by place byte) (first_broken (place + 1) bytes)

-- a whole greeting that is accepted
pub record IsGreeting (raw : Bytes) : Type 0 where
  pub whole : length raw ≡ 64
  pub good : first_broken 0 raw ≡ None
