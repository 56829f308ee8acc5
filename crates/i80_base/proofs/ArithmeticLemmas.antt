-- The bit operations of the code are the sums and digits of the definitions.
use Rattle.std.proofs.Common.{◌≡◌, ℕ, ◌+◌, ◌-◌, ◌*◌, ◌/◌, ◌%◌, ◌<◌, ◌≤◌, Bool, true, false, not, ◌||◌, ◌==◌}
use Rattle.std.proofs.Common.{nat_eq, nat_lt, refl, ap, ◌∙◌, bit_and, bit_or, bit_xor, arith, min, max}
use Rattle.std.proofs.lemmas.Nat.{and_mask, and_le_l, or_lt, xor_lt}
use Rattle.std.proofs.lemmas.Nat.Bits.{and_pow, bit_at_and, bit_at_xor, bit_at_or, bit_at-lt}
use Rattle.std.specs.Int.{bit_at, from_bool}
use Rattle.std.proofs.lemmas.Bool.Decides.{nat_tests}
use Rattle.i80_base.specs.declared.instruction.Rotation.TheVariants.{Rlc, Rrc, Ral, Rar}
use Rattle.i80_base.specs.declared.arithmetic.AluResult.{AluResult}
use Rattle.i80_base.specs.FlagValues.{FlagValues, is_set}
use Rattle.i80_base.specs.Arithmetic.{by_digits, with_flags, sum, increment, decrement, decimal_adjustment}
use Rattle.i80_base.specs.Arithmetic.{rotation_of}
use Rattle.i80_base.specs.Arithmetic.{value_and_carry}
use Rattle.i80_base.proofs.Tables.{agree, table}

pub carry_by_mask : (x : ℕ) → x < 512 → not (nat_eq (bit_and x 256) 0) ≡ nat_lt 255 x
carry_by_mask = agree (λ x. not (nat_eq (bit_and x 256) 0)) (λ x. nat_lt 255 x) 512 refl

-- a byte is the sum of its binary digits
of_digits : (v : ℕ) → v < 256 → v ≡ 128 * bit_at v 7 + 64 * bit_at v 6 + 32 * bit_at v 5 + 16 * bit_at v 4
    + 8 * bit_at v 3 + 4 * bit_at v 2 + 2 * bit_at v 1 + bit_at v 0
of_digits = agree (λ v. v) (λ v. 128 * bit_at v 7 + 64 * bit_at v 6 + 32 * bit_at v 5 + 16 * bit_at v 4
    + 8 * bit_at v 3 + 4 * bit_at v 2 + 2 * bit_at v 1 + bit_at v 0) 256 refl

-- so it is known by what each of them is
digit_by_digit : (f : ℕ → ℕ → ℕ) (v x y : ℕ) → v < 256 → ((k : ℕ) → bit_at v k ≡ f (bit_at x k) (bit_at y k))
    → v ≡ by_digits f x y
digit_by_digit f v x y h each =
    of_digits v h ∙ (rw (each 7, each 6, each 5, each 4, each 3, each 2, each 1, each 0) refl)

-- what two functions give of digits is the same if it is of 0 and 1
of_two : {A : Type 0} (f g : ℕ → ℕ → A) → table (λ a. table (f a) 2) 2 ≡ table (λ a. table (g a) 2) 2
    → (a b : ℕ) → a < 2 → b < 2 → f a b ≡ g a b
of_two f g same a b ha hb =
    agree (f a) (g a) 2 (agree (λ a. table (f a) 2) (λ a. table (g a) 2) 2 same a ha) b hb

pub and_by_digits : (x y : ℕ) → x < 256 → y < 256 → bit_and x y ≡ by_digits (λ a b. a * b) x y
and_by_digits x y hx hy =
    let below : bit_and x y < 256 = omega (arith, and_le_l x y) in
    digit_by_digit (λ a b. a * b) (bit_and x y) x y below (λ k. bit_at_and x y k
    ∙ of_two min (λ a b. a * b) refl (bit_at x k) (bit_at y k) (bit_at-lt x k) (bit_at-lt y k))

above : (n m : ℕ) → (n ≡ 0 → m ≤ 15) → ((n ≡ 0 → ⊥) → 15 < m) → not (nat_eq n 0) ≡ nat_lt 15 m
above n m low high = grind (arith, nat_tests)

pub auxiliary_by_xor : (x y c v : ℕ) → x < 256 → y < 256 → c ≤ 1 → v ≡ (x + y + c) % 256
    → not (nat_eq (bit_and (bit_xor (bit_xor x y) v) 16) 0) ≡ nat_lt 15 (x % 16 + y % 16 + c)
auxiliary_by_xor x y c v hx hy hc e =
    let masked : bit_and (bit_xor (bit_xor x y) v) 16 ≡ bit_at (bit_xor (bit_xor x y) v) 4 * 16 =
    and_pow (bit_xor (bit_xor x y) v) 4 in
    let outer : bit_at (bit_xor (bit_xor x y) v) 4 ≡ (bit_at (bit_xor x y) 4 + v / 16 % 2) % 2 =
    bit_at_xor (bit_xor x y) v 4 in
    let inner : bit_at (bit_xor x y) 4 ≡ (x / 16 % 2 + y / 16 % 2) % 2 = bit_at_xor x y 4 in
    let all : bit_and (bit_xor (bit_xor x y) v) 16 ≡ ((x / 16 % 2 + y / 16 % 2) % 2 + v / 16 % 2) % 2 * 16 =
    masked ∙ ap (λ d. d * 16) (outer ∙ ap (λ d. (d + v / 16 % 2) % 2) inner) in
    above _ _ (λ z. omega (arith, z, all)) (λ z. omega (arith, z, all))

pub from_bool-le : (c : Bool) → from_bool c ≤ 1
from_bool-le true = omega arith
from_bool-le false = omega arith

pub sum_by_bits : (x y : ℕ) (c : Bool) → x < 256 → y < 256
    → with_flags (bit_and (x + y + from_bool c) 255)
    (not (nat_eq (bit_and (bit_xor (bit_xor x y) (bit_and (x + y + from_bool c) 255)) 16) 0))
    (not (nat_eq (bit_and (x + y + from_bool c) 256) 0)) ≡ sum x y c
sum_by_bits x y c hx hy =
    let t = x + y + from_bool c in
    let low : bit_and t 255 ≡ t % 256 = and_mask t 8 in
    let ac = auxiliary_by_xor x y (from_bool c) (bit_and t 255) hx hy (from_bool-le c) low in
    let cy = carry_by_mask t (omega (arith, from_bool-le c)) in
    rw (ac, cy, low) refl

pub increment_by_bits : (x : ℕ) (cy : Bool) → x < 256
    → with_flags ((x + 1) % 256) (nat_eq (bit_and ((x + 1) % 256) 15) 0) cy ≡ increment x cy
increment_by_bits x cy h =
    agree (λ x. with_flags ((x + 1) % 256) (nat_eq (bit_and ((x + 1) % 256) 15) 0) cy) (λ x. increment x cy)
    256 refl x h

pub decrement_by_bits : (x : ℕ) (cy : Bool) → x < 256
    → with_flags ((x + 255) % 256) (not (nat_eq (bit_and ((x + 255) % 256) 15) 15)) cy ≡ decrement x cy
decrement_by_bits x cy h =
    agree (λ x. with_flags ((x + 255) % 256) (not (nat_eq (bit_and ((x + 255) % 256) 15) 15)) cy)
    (λ x. decrement x cy) 256 refl x h

pub xor_by_digits : (x y : ℕ) → x < 256 → y < 256 → bit_xor x y ≡ by_digits (λ a b. (a + b) % 2) x y
xor_by_digits x y hx hy =
    digit_by_digit (λ a b. (a + b) % 2) (bit_xor x y) x y (xor_lt 8 x y hx hy) (bit_at_xor x y)

pub auxiliary_by_or : (x y : ℕ) → not (nat_eq (bit_and (bit_or x y) 8) 0) ≡ (is_set x 3 || is_set y 3)
auxiliary_by_or x y =
    let masked : bit_and (bit_or x y) 8 ≡ bit_at (bit_or x y) 3 * 8 = and_pow (bit_or x y) 3 in
    ap (λ n. not (nat_eq n 0)) (masked ∙ ap (λ d. d * 8) (bit_at_or x y 3))
    ∙ of_two (λ a b. not (nat_eq (max a b * 8) 0)) (λ a b. (a == 1) || (b == 1)) refl
    (bit_at x 3) (bit_at y 3) (bit_at-lt x 3) (bit_at-lt y 3)

abbrev pub daa_value : ℕ → Bool → Bool → ℕ
daa_value a ac cy = (a
    + (6 * from_bool (nat_lt 9 (bit_and a 15) || ac) + 96 * from_bool (cy || nat_lt 153 a))) % 256

abbrev pub daa_code : ℕ → Bool → Bool → AluResult
daa_code a ac cy = with_flags (daa_value a ac cy)
    (not (nat_eq (bit_and (bit_xor a (daa_value a ac cy)) 16) 0)) (cy || nat_lt 153 a)

abbrev pub daa_spec : ℕ → Bool → Bool → AluResult
daa_spec a ac cy = decimal_adjustment a (record { s = false; z = false; ac = ac; p = false; cy = cy })

daa_each : (ac cy : Bool) → table (λ a. daa_code a ac cy) 256 ≡ table (λ a. daa_spec a ac cy) 256
daa_each true true = refl
daa_each true false = refl
daa_each false true = refl
daa_each false false = refl

pub adjusted_by_bits : (a : ℕ) (f : FlagValues) → a < 256 → daa_code a f.ac f.cy ≡ decimal_adjustment a f
adjusted_by_bits a f h =
    agree (λ a. daa_code a f.ac f.cy) (λ a. daa_spec a f.ac f.cy) 256 (daa_each f.ac f.cy) a h

pub or_by_digits : (x y : ℕ) → x < 256 → y < 256 → bit_or x y ≡ by_digits (λ a b. a + b - a * b) x y
or_by_digits x y hx hy =
    digit_by_digit (λ a b. a + b - a * b) (bit_or x y) x y (or_lt 8 x y hx hy) (λ k. bit_at_or x y k
    ∙ of_two max (λ a b. a + b - a * b) refl (bit_at x k) (bit_at y k) (bit_at-lt x k) (bit_at-lt y k))

pub rlc_by_bits : (a : ℕ) (f : FlagValues) → a < 256
    → value_and_carry (bit_or (a * 2 % 256) (a / 128)) (not (nat_eq (bit_and a 128) 0)) f
    ≡ rotation_of Rlc a f
rlc_by_bits a f h = agree (λ a. value_and_carry (bit_or (a * 2 % 256) (a / 128)) (not (nat_eq (bit_and a
    128) 0)) f)
    (λ a. rotation_of Rlc a f) 256 refl a h

pub rrc_by_bits : (a : ℕ) (f : FlagValues) → a < 256
    → value_and_carry (bit_or (a / 2) (a * 128 % 256)) (not (nat_eq (bit_and a 1) 0)) f ≡ rotation_of Rrc a f
rrc_by_bits a f h = agree (λ a. value_and_carry (bit_or (a / 2) (a * 128 % 256)) (not (nat_eq (bit_and a 1)
    0)) f)
    (λ a. rotation_of Rrc a f) 256 refl a h

ral_each : (cy : Bool) (f : FlagValues)
    → table (λ a. value_and_carry (bit_or (a * 2 % 256) (from_bool cy)) (not (nat_eq (bit_and a 128) 0)) f)
    256
    ≡ table (λ a. value_and_carry (a * 2 % 256 + from_bool cy) (a / 128 == 1) f) 256
ral_each true f = refl
ral_each false f = refl

pub ral_by_bits : (a : ℕ) (f : FlagValues) → a < 256
    → value_and_carry (bit_or (a * 2 % 256) (from_bool f.cy)) (not (nat_eq (bit_and a 128) 0)) f
    ≡ rotation_of Ral a f
ral_by_bits a f h = agree
    (λ a. value_and_carry (bit_or (a * 2 % 256) (from_bool f.cy)) (not (nat_eq (bit_and a 128) 0)) f)
    (λ a. rotation_of Ral a f) 256 (ral_each f.cy f) a h

rar_each : (cy : Bool) (f : FlagValues)
    → table (λ a. value_and_carry (bit_or (a / 2) (from_bool cy * 128 % 256)) (not (nat_eq (bit_and a 1)
    0)) f) 256
    ≡ table (λ a. value_and_carry (a / 2 + 128 * from_bool cy) (a % 2 == 1) f) 256
rar_each true f = refl
rar_each false f = refl

pub rar_by_bits : (a : ℕ) (f : FlagValues) → a < 256
    → value_and_carry (bit_or (a / 2) (from_bool f.cy * 128 % 256)) (not (nat_eq (bit_and a 1) 0)) f
    ≡ rotation_of Rar a f
rar_by_bits a f h = agree
    (λ a. value_and_carry (bit_or (a / 2) (from_bool f.cy * 128 % 256)) (not (nat_eq (bit_and a 1) 0)) f)
    (λ a. rotation_of Rar a f) 256 (rar_each f.cy f) a h
