-- What the table of S, Z and P holds.
use Rattle.std.proofs.Common.{◌≡◌, ℕ, ◌*◌, ◌%◌, ◌<◌, Bool, true, false, refl, bit_or, get_or}
use Rattle.std.specs.Int.{from_bool}
use Rattle.i80_base.specs.declared.flags.TheConstants.{SHOWN}
use Rattle.i80_base.specs.FlagValues.{flag_byte, flags_of}
use Rattle.i80_base.specs.Arithmetic.{shown_by}
use Rattle.i80_base.proofs.Tables.{agree, table}

abbrev pub packed_from : Bool → Bool → ℕ → ℕ
packed_from ac cy v = bit_or (bit_or (get_or SHOWN v 0) (from_bool ac * 16 % 256)) (from_bool cy)

each_flags : (ac cy : Bool) → table (λ v. flags_of (packed_from ac cy v)) 256
    ≡ table (λ v. shown_by v ac cy) 256
each_flags true true = refl
each_flags true false = refl
each_flags false true = refl
each_flags false false = refl

each_byte : (ac cy : Bool) → table (λ v. flag_byte (flags_of (packed_from ac cy v))) 256
    ≡ table (packed_from ac cy) 256
each_byte true true = refl
each_byte true false = refl
each_byte false true = refl
each_byte false false = refl

pub shown_flags : (ac cy : Bool) (v : ℕ) → v < 256 → flags_of (packed_from ac cy v) ≡ shown_by v ac cy
shown_flags ac cy v h =
    agree (λ v. flags_of (packed_from ac cy v)) (λ v. shown_by v ac cy) 256 (each_flags ac cy) v h

pub shown_byte : (ac cy : Bool) (v : ℕ) → v < 256 → flag_byte (flags_of (packed_from ac cy v))
    ≡ packed_from ac cy v
shown_byte ac cy v h = agree (λ v. flag_byte (flags_of (packed_from ac cy v))) (packed_from ac cy) 256
    (each_byte ac cy) v h
