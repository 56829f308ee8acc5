-- A bucket gives no more slices than it had and the waits paid for.
use Rattle.std.proofs.Common.{◌≡◌, ◌≤◌, ◌+◌, ◌-◌, ◌*◌, ℕ, Bool, true, false, if◌then◌else◌, List, [], ◌∷◌}
use Rattle.std.proofs.Common.{arith, refl}
use Rattle.std.specs.Prelude.{nat_le}
use Rattle.std.proofs.Math.Nat.{mul-le-mul_left}
use Rattle.std.proofs.lemmas.Bool.Decides.{nat_tests}
use Rattle.kern_pace.specs.Buckets.{one_slice, full_bucket, after_take, after_rest, Happening, Take, Rest}
use Rattle.kern_pace.specs.Buckets.{parts_paid, time_waited, IsPaidFor, IsWithinRate}

-- a slice that is taken is one that the bucket has less
take_paid : (bucket : ℕ)
    → (if nat_le one_slice bucket then 1 else 0) * one_slice + after_take bucket ≡ bucket
take_paid bucket = by (nat_le one_slice bucket) refl
  where
    by : (has : Bool) → nat_le one_slice bucket ≡ has
        → (if has then 1 else 0) * one_slice + (if has then bucket - one_slice else bucket) ≡ bucket
    by true is = grind (arith, nat_tests)
    by false is = omega arith

pub is_paid_for : (happened : List Happening) (bucket : ℕ) → IsPaidFor happened bucket
is_paid_for [] bucket = omega arith
is_paid_for (Take ∷ later) bucket = omega (arith, take_paid bucket, is_paid_for later (after_take bucket))
is_paid_for (Rest micros entries ∷ later) bucket =
    omega (arith, is_paid_for later (after_rest micros entries bucket))

-- no journal has more than 4,161,536 entries left
paid_slowly : (happened : List Happening) → parts_paid happened ≤ time_waited happened * 4161536
paid_slowly [] = omega arith
paid_slowly (Take ∷ later) = paid_slowly later
paid_slowly (Rest micros entries ∷ later) =
    let most : micros * (4161536 - entries) ≤ micros * 4161536 = mul-le-mul_left micros (omega arith) in
    omega (arith, most, paid_slowly later)

pub is_within_rate : (happened : List Happening) (bucket : ℕ) → bucket ≤ full_bucket
    → IsWithinRate happened bucket
is_within_rate happened bucket fits = omega (arith, fits, is_paid_for happened bucket, paid_slowly happened)
