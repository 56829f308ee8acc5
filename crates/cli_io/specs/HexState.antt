-- What is kept of hexadecimal text while it is read.
use Rattle.std.specs.Prelude.{◌≡◌, ℕ, ◌%◌, List, [], ◌∷◌, ◌++◌, Bool, true, false, not, if◌then◌else◌, ◌==◌}
use Rattle.std.specs.Prelude.{nat_lt, map, length, take}
use Rattle.std.specs.List.{list_all}
use Rattle.std.specs.Prelude.{Result, Ok, Err}
use Rattle.cli_io.specs.HexInput.{characters, is_hex_digit, digit_value, byte_pairs, Input, BadHex, PastEnd}
use Rattle.cli_io.specs.HexInput.{Bytes}
use Rattle.cli_io.specs.declared.hex_input.HexFault.{HexFault}
use Rattle.cli_io.specs.declared.hex_input.HexFault.TheVariants as fault

-- the digits of as many bytes as memory has
unfoldable pub most_digits : ℕ
most_digits = 131072

-- the values of the digits so far, at most so many, whether their number is odd, and whether there were more
pub record HexState : Type 0 where
  pub digits : List ℕ
  pub is_odd : Bool
  pub is_long : Bool

abbrev pub state_of : List ℕ → HexState
state_of digits = record {
  digits = take most_digits (map digit_value digits);
  is_odd = length digits % 2 == 1;
  is_long = nat_lt most_digits (length digits);
}

-- the text so far has only digits and blanks, and this is kept of them
pub record HasReadHex (h : HexState) (text : List ℕ) : Type 0 where
  pub all_digits : list_all is_hex_digit (characters text) ≡ true
  pub kept : h ≡ state_of (characters text)

-- whatever text the old one represents, the new one represents it and this piece
abbrev pub TakesPiece : List ℕ → HexState → HexState → Type 0
TakesPiece piece old new = (text : List ℕ) → HasReadHex old text → HasReadHex new (text ++ piece)

-- something in the piece is neither a digit nor a blank
abbrev pub IsBad : List ℕ → Type 0
IsBad piece = list_all is_hex_digit (characters piece) ≡ false

-- one more digit, which is kept if there is room
abbrev pub kept_more : HexState → ℕ → HexState
kept_more h value = record {
  digits = if (nat_lt (length h.digits) most_digits) then (h.digits ++ value ∷ []) else h.digits;
  is_odd = not h.is_odd;
  is_long = if (nat_lt (length h.digits) most_digits) then h.is_long else true;
}

-- the digits' values that were found, or the fault, are those of the input
abbrev pub Finds : {X : Type 0} → (X → List ℕ) → Result X HexFault → Input → Type 0
Finds view (Ok digits) input = input ≡ Bytes (byte_pairs (view digits))
Finds view (Err fault.BadHex) input = input ≡ BadHex
Finds view (Err fault.PastEnd) input = input ≡ PastEnd
Finds view (Err fault.OutOfMemory) input = ⊥
Finds view (Err fault.Read) input = ⊥
