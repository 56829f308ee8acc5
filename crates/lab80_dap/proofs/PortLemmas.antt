-- What the digits of a port say.
use Rattle.std.proofs.Common.{arith, ◌≡◌, ℕ, ◌^◌, ◌<◌, true, List, [], ◌∷◌, refl, Some, None, ◌&&◌}
use Rattle.std.specs.Int.{is_in_range}
use Rattle.std.specs.Str.{all_ascii_digits}
use Rattle.std.specs.Str.Parse.{IsNumeral, digits_value}
use Rattle.std.proofs.lemmas.Bool.{cond_both, and_parts}
use Rattle.std.proofs.lemmas.Str.Parse.{IsNumeralModel, numerals_by_value, tells_all_ascii_digits}
use Rattle.lab80_dap.specs.Command.{port_of_digits}

numerals : IsNumeralModel (λ ds. all_ascii_digits ds ≡ true) (digits_value 10)
numerals = numerals_by_value _ tells_all_ascii_digits

in_range : (n : ℕ) → 0 < n → n < 2 ^ 16 → is_in_range 1 65535 n ≡ true
in_range n some small = grind arith

from_range : (n : ℕ) → is_in_range 1 65535 n ≡ true → n < 2 ^ 16
from_range n e = grind arith

pub some_port : (digits : List ℕ) → IsNumeral 10 digits → 0 < digits_value 10 digits
    → digits_value 10 digits < 2 ^ 16 → Some (digits_value 10 digits) ≡ port_of_digits digits
some_port digits numeral some small =
    rw (numerals.from digits numeral.1) (rw (in_range (digits_value 10 digits) some small) refl)

pub no_port : (digits : List ℕ) → ¬ (IsNumeral 10 digits × (digits_value 10 digits < 2 ^ 16))
    → None ≡ port_of_digits digits
no_port [] none = refl
no_port (digit ∷ digits) none =
    let all = all_ascii_digits (digit ∷ digits) in
    let number = digits_value 10 (digit ∷ digits) in
    let is_port = is_in_range 1 65535 number in
    cond_both (all && is_port) (Some number) None (λ port. None ≡ port)
    (λ e. let told = and_parts all is_port e in
    absurd (none ((omega arith, numerals.to (digit ∷ digits) told.0), from_range number told.1)))
    (λ e. refl)
