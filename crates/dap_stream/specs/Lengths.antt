-- What the bytes of a Content-Length's value say so far.
use Rattle.std.specs.Prelude.{◌≡◌, ℕ, ◌+◌, ◌-◌, ◌*◌, ◌==◌, ◌&&◌, ◌||◌, nat_lt, if◌then◌else◌, not, true}
use Rattle.std.specs.Prelude.{Option, Some, None, Result, Ok, Err, MatchResult, [], ◌∷◌, ◌++◌}
use Rattle.std.specs.List.{list_all}
use Rattle.std.specs.Char.{is_ascii_digit}
use Rattle.dap_stream.specs.Wire.{Bytes}
use Rattle.dap_stream.specs.Header.{is_blank, IsLength, IsAllowed}
use Rattle.dap_stream.specs.declared.fault.StreamFault.{StreamFault}
use Rattle.dap_stream.specs.declared.fault.StreamFault.TheVariants as fault

-- blanks so far, or this size
abbrev pub SaysSize : Bytes → Option ℕ → Type 0
SaysSize value None = list_all is_blank value ≡ true
SaysSize value (Some size) = IsAllowed value size

-- a value that is within the limit begins with these bytes
pub record CanSay (value : Bytes) : Type 0 where
  pub more : Bytes
  pub size : ℕ
  pub allowed : IsAllowed (value ++ more) size

-- no value that begins with these bytes is a number, or none is within the limit
pub data LacksSize (value : Bytes) (c : StreamFault) : Type 0 where
  NoNumber : c ≡ fault.LengthValue → ((more : Bytes) (size : ℕ) → IsLength (value ++ more) size → ⊥)
      → LacksSize value c
  TooLarge : (size : ℕ) → c ≡ fault.BodySize → IsLength value size
      → ((more : Bytes) (size : ℕ) → IsAllowed (value ++ more) size → ⊥) → LacksSize value c

-- a value begins with the bytes in front of one, and none with that byte too
pub record BreaksLength (value : Bytes) (c : StreamFault) : Type 0 where
  pub front : Bytes
  pub byte : ℕ
  pub others : Bytes
  pub spelled : value ≡ front ++ byte ∷ others
  pub begins : CanSay front
  pub lacks : LacksSize (front ++ byte ∷ []) c

-- what a value says so far, or what is wrong with it
abbrev pub ValueSays : Bytes → Result (Option ℕ) StreamFault → Type 0
ValueSays value said = MatchResult said (SaysSize value) (BreaksLength value)

-- what bytes say that follow blanks and so many digits of this number
abbrev pub value_from : ℕ → ℕ → Bytes → Result (Option ℕ) StreamFault
value_from count number [] = Ok (if count == 0 then None else Some number)
value_from count number (byte ∷ bytes) =
    if (count == 0) && is_blank byte then value_from 0 0 bytes
    else (if not (is_ascii_digit byte) || (count == 10) then Err fault.LengthValue
    else (if nat_lt 1048576 (number * 10 + (byte - 48)) then Err fault.BodySize
    else value_from (count + 1) (number * 10 + (byte - 48)) bytes))
