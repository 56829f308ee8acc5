-- Numbers: digits, and at the end perhaps a letter that names the base (8080/8085 Assembly Language
-- Programming Manual, chapter 2).
use Rattle.std.specs.Prelude.{ℕ, ◌+◌, ◌-◌, ◌*◌, List, Option, Some, None, if◌then◌else◌, nat_lt}
use Rattle.std.specs.Prelude.{◌==◌, ◌&&◌, ◌||◌, length, take, slice_index, fold}
use Rattle.std.specs.List.{list_all}
use Rattle.std.specs.Char.{digit_value, to_ascii_uppercase}
use Rattle.asm_syntax.specs.Ascii.{letter_b, letter_d, letter_h, letter_o, letter_q}

-- the number that digits spell after a number
abbrev pub with_digits : ℕ → ℕ → List ℕ → ℕ
with_digits base n ds = fold (λ m d. m * base + digit_value d) n ds

-- the number that digits spell, if each is one of the base's and the number is below 65,536
abbrev pub in_base : ℕ → List ℕ → Option ℕ
in_base base ds =
    if list_all (λ d. nat_lt (digit_value d) base) ds && nat_lt (with_digits base 0 ds) 65536
    then Some (with_digits base 0 ds)
    else None

-- by the last character: H 16, D 10, O and Q 8, B 2, and else 10 with no letter
abbrev pub by_last : ℕ → List ℕ → List ℕ → Option ℕ
by_last last front digits =
    if last == letter_h then in_base 16 front
    else (if last == letter_d then in_base 10 front
    else (if last == letter_o || last == letter_q then in_base 8 front
    else (if last == letter_b then in_base 2 front
    else in_base 10 digits)))

-- the number that letters and digits are
abbrev pub number_of : List ℕ → Option ℕ
number_of digits =
    let last = length digits - 1
    in by_last (to_ascii_uppercase (slice_index digits last)) (take last digits) digits
