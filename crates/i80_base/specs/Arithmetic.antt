-- Sums, differences and logic of bytes with their flags, in whole numbers and binary digits.
use Rattle.std.specs.Prelude.{
  ℕ,
  ◌+◌,
  ◌-◌,
  ◌*◌,
  ◌/◌,
  ◌%◌,
  Bool,
  false,
  not,
  ◌||◌,
  nat_lt,
  nat_le,
  ◌==◌,
  if◌then◌else◌,
}
use Rattle.std.specs.Int.{from_bool}
use Rattle.i80_base.specs.declared.instruction.Rotation.{Rotation}
use Rattle.i80_base.specs.declared.instruction.Rotation.TheVariants.{Rlc, Rrc, Ral, Rar}
use Rattle.i80_base.specs.declared.arithmetic.AluResult.{AluResult}
use Rattle.i80_base.specs.FlagValues.{FlagValues, digit, is_set}

-- the eight binary digits add up to an even number
abbrev pub is_even : ℕ → Bool
is_even x = (digit x 0 + digit x 1 + digit x 2 + digit x 3 + digit x 4 + digit x 5 + digit x 6 + digit x 7)
    % 2 == 0

-- the sign, zero and parity that a result shows, and these carries
abbrev pub shown_by : ℕ → Bool → Bool → FlagValues
shown_by value ac cy = record { s = nat_le 128 value; z = value == 0; ac = ac; p = is_even value; cy = cy }

abbrev pub with_flags : ℕ → Bool → Bool → AluResult
with_flags value ac cy = record { value = value; flags = shown_by value ac cy }

-- the same result with this carry
abbrev pub with_carry : Bool → AluResult → AluResult
with_carry cy r = record { value = r.value; flags = record r.flags { cy = cy } }

-- CY is set if the total is above 255, AC if the total of the low hexadecimal digits is above 15
abbrev pub sum : ℕ → ℕ → Bool → AluResult
sum x y c =
    let total = x + y + from_bool c in
    with_flags (total % 256) (nat_lt 15 (x % 16 + y % 16 + from_bool c)) (nat_lt 255 total)

-- the complement of the operand and the complement of the borrow are added, and the carry is inverted
abbrev pub difference : ℕ → ℕ → Bool → AluResult
difference x y b = let t = sum x (255 - y) (not b) in with_carry (not t.flags.cy) t

-- INR adds 1 and leaves the carry
abbrev pub increment : ℕ → Bool → AluResult
increment x cy = with_carry cy (sum x 1 false)

-- DCR subtracts 1 and leaves the carry
abbrev pub decrement : ℕ → Bool → AluResult
decrement x cy = with_carry cy (difference x 1 false)

-- DAA: 6 is added if the low digit is above 9 or AC is set, and 60h if A is above 99h or CY is set;
-- CY is set if it was set before or A was above 99h
abbrev pub decimal_adjustment : ℕ → FlagValues → AluResult
decimal_adjustment a f =
    let low = if (nat_lt 9 (a % 16) || f.ac) then 6 else 0 in
    let cy = (f.cy || nat_lt 0x99 a) in
    let high = if cy then 0x60 else 0 in
    with_flags ((a + low + high) % 256) (nat_lt 15 (a % 16 + low)) cy

-- digit by digit
abbrev pub by_digits : (ℕ → ℕ → ℕ) → ℕ → ℕ → ℕ
by_digits f x y =
    128 * f (digit x 7) (digit y 7) + 64 * f (digit x 6) (digit y 6)
    + 32 * f (digit x 5) (digit y 5) + 16 * f (digit x 4) (digit y 4)
    + 8 * f (digit x 3) (digit y 3) + 4 * f (digit x 2) (digit y 2)
    + 2 * f (digit x 1) (digit y 1) + f (digit x 0) (digit y 0)

-- AC is set if bit 3 of an operand is, and CY is cleared
abbrev pub conjunction : ℕ → ℕ → AluResult
conjunction x y = with_flags (by_digits (λ a b. a * b) x y) (is_set x 3 || is_set y 3) false

abbrev pub exclusive : ℕ → ℕ → AluResult
exclusive x y = with_flags (by_digits (λ a b. (a + b) % 2) x y) false false

abbrev pub inclusive : ℕ → ℕ → AluResult
inclusive x y = with_flags (by_digits (λ a b. a + b - a * b) x y) false false

-- of the flags only the carry changes
abbrev pub value_and_carry : ℕ → Bool → FlagValues → AluResult
value_and_carry value carry f = record { value = value; flags = record f { cy = carry } }

-- RLC and RRC: the bit that leaves comes in at the other end; RAL and RAR: the carry comes in.
-- The carry is the bit that left.
abbrev pub rotation_of : Rotation → ℕ → FlagValues → AluResult
rotation_of Rlc a f = value_and_carry (a * 2 % 256 + a / 128) (a / 128 == 1) f
rotation_of Rrc a f = value_and_carry (a / 2 + 128 * (a % 2)) (a % 2 == 1) f
rotation_of Ral a f = value_and_carry (a * 2 % 256 + from_bool f.cy) (a / 128 == 1) f
rotation_of Rar a f = value_and_carry (a / 2 + 128 * from_bool f.cy) (a % 2 == 1) f
