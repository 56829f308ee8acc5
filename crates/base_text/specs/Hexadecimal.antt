-- Numbers in base 16: a byte has two digits and a word four, the most significant first.
use Rattle.std.specs.Prelude.{ℕ, ◌+◌, ◌-◌, ◌*◌, ◌/◌, ◌%◌, [], ◌∷◌, ◌++◌, ◌&&◌, nat_lt, nat_le, Option}
use Rattle.std.specs.Prelude.{Some, None, option_and_then, if◌then◌else◌}
use Rattle.base_text.specs.Bytes.{Text}

-- ---- read, in either case

-- the value of `0` to `9`, `A` to `F` or `a` to `f`
abbrev pub digit_value : ℕ → Option ℕ
digit_value c =
    if (nat_le 48 c && nat_le c 57) then (Some (c - 48)) else
    (if (nat_le 65 c && nat_le c 70) then (Some (c - 55)) else
    (if (nat_le 97 c && nat_le c 102) then (Some (c - 87)) else None))

-- the number that digits spell, after the number so far
abbrev pub number_from : ℕ → Text → Option ℕ
number_from n [] = Some n
number_from n (c ∷ cs) = option_and_then (λ digit. number_from (n * 16 + digit) cs) (digit_value c)

-- the word that exactly four digits spell
abbrev pub word_spelled : Text → Option ℕ
word_spelled (a ∷ b ∷ c ∷ d ∷ []) = number_from 0 (a ∷ b ∷ c ∷ d ∷ [])
word_spelled other = None

-- ---- written in upper case

-- `0` to `9`, `A` to `F`
abbrev pub upper_digit : ℕ → ℕ
upper_digit n = if nat_lt n 10 then 48 + n else 55 + n

abbrev pub upper_byte : ℕ → Text
upper_byte n = upper_digit (n / 16) ∷ (upper_digit (n % 16) ∷ [])

abbrev pub upper_word : ℕ → Text
upper_word n = upper_byte (n / 256) ++ upper_byte (n % 256)

-- ---- written in lower case

-- `0` to `9`, `a` to `f`
abbrev pub lower_digit : ℕ → ℕ
lower_digit n = if nat_lt n 10 then 48 + n else 87 + n

abbrev pub lower_byte : ℕ → Text
lower_byte n = lower_digit (n / 16) ∷ (lower_digit (n % 16) ∷ [])

abbrev pub lower_word : ℕ → Text
lower_word n = lower_byte (n / 256) ++ lower_byte (n % 256)
