-- What hexadecimal text on standard input means.
use Rattle.std.specs.Prelude.{ℕ, ◌+◌, ◌*◌, ◌/◌, ◌%◌, List, [], ◌∷◌, Bool, not, ◌||◌, nat_lt, ◌==◌, is_some}
use Rattle.std.specs.Prelude.{unwrap_or, filter, map, length, if◌then◌else◌}
use Rattle.base_text.specs.Hexadecimal as hexadecimal
use Rattle.std.specs.List.{list_all}

-- space, tab, line feed and carriage return, which are ignored everywhere
abbrev pub is_blank : ℕ → Bool
is_blank c = c == 32 || c == 9 || c == 10 || c == 13

-- a hexadecimal digit, in either case
abbrev pub is_hex_digit : ℕ → Bool
is_hex_digit c = is_some (hexadecimal.digit_value c)

abbrev pub digit_value : ℕ → ℕ
digit_value c = unwrap_or (hexadecimal.digit_value c) 0

-- the characters that aren't ignored
abbrev pub characters : List ℕ → List ℕ
characters text = filter (λ c. not (is_blank c)) text

-- two digits make a byte, the high one first
abbrev pub byte_pairs : List ℕ → List ℕ
byte_pairs [] = []
byte_pairs (high ∷ []) = []
byte_pairs (high ∷ (low ∷ rest)) = (16 * high + low) ∷ byte_pairs rest

-- refused for a wrong character or an odd number of digits, refused for more bytes than memory has, or bytes
pub data Input : Type 0 where
  BadHex : Input
  PastEnd : Input
  Bytes : List ℕ → Input

abbrev pub input_of : List ℕ → Input
input_of text =
    let digits = characters text in
    if (not (list_all is_hex_digit digits)) then BadHex else
    (if (length digits % 2 == 1) then BadHex else
    (if (nat_lt 65536 (length digits / 2)) then PastEnd else
    (Bytes (byte_pairs (map digit_value digits)))))
