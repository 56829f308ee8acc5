-- How many slices run at full speed: those of a bucket, which waits for something to do refill. It is
-- counted in parts of a slice, 32,000,000,000 to one. Each microsecond of a wait pays for as many parts as
-- entries are left before the reserve: 130 slices a second where all are left, and none where none are.
use Rattle.std.specs.Prelude.{ℕ, ◌+◌, ◌-◌, ◌*◌, ◌/◌, ◌≤◌, min, nat_le, if◌then◌else◌, List, [], ◌∷◌}

-- the parts of a slice
abbrev pub one_slice : ℕ
one_slice = 32000000000

-- those of 524,288 slices
abbrev pub full_bucket : ℕ
full_bucket = 524288 * one_slice

abbrev pub HasSlice : ℕ → Type 0
HasSlice bucket = one_slice ≤ bucket

-- with a slice less, if it has one
abbrev pub after_take : ℕ → ℕ
after_take bucket = if nat_le one_slice bucket then bucket - one_slice else bucket

-- what so many microseconds pay for in a journal of so many entries
abbrev pub paid_by : ℕ → ℕ → ℕ
paid_by micros entries = micros * (4161536 - entries)

-- with what the wait pays for, until it is full
abbrev pub after_rest : ℕ → ℕ → ℕ → ℕ
after_rest micros entries bucket = min (bucket + paid_by micros entries) full_bucket

-- ---- a stretch of time

-- the worker asks for a slice, or has waited so many microseconds in a journal of so many entries
pub data Happening : Type 0 where
  Take : Happening
  Rest : (micros entries : ℕ) → Happening

-- the bucket after what happened
abbrev pub bucket_after : List Happening → ℕ → ℕ
bucket_after [] bucket = bucket
bucket_after (Take ∷ later) bucket = bucket_after later (after_take bucket)
bucket_after (Rest micros entries ∷ later) bucket = bucket_after later (after_rest micros entries bucket)

-- how many slices the bucket gave
abbrev pub slices_taken : List Happening → ℕ → ℕ
slices_taken [] bucket = 0
slices_taken (Take ∷ later) bucket =
    (if nat_le one_slice bucket then 1 else 0) + slices_taken later (after_take bucket)
slices_taken (Rest micros entries ∷ later) bucket = slices_taken later (after_rest micros entries bucket)

-- what the waits paid for
abbrev pub parts_paid : List Happening → ℕ
parts_paid [] = 0
parts_paid (Take ∷ later) = parts_paid later
parts_paid (Rest micros entries ∷ later) = paid_by micros entries + parts_paid later

-- how long the waits were in all, in microseconds
abbrev pub time_waited : List Happening → ℕ
time_waited [] = 0
time_waited (Take ∷ later) = time_waited later
time_waited (Rest micros entries ∷ later) = micros + time_waited later

-- the bucket gave no more than it had and the waits paid for
abbrev pub IsPaidFor : List Happening → ℕ → Type 0
IsPaidFor happened bucket =
    slices_taken happened bucket * one_slice + bucket_after happened bucket ≤ bucket + parts_paid happened

-- it gave at most 524,288 slices and some 130 for each second of waiting
abbrev pub IsWithinRate : List Happening → ℕ → Type 0
IsWithinRate happened bucket =
    slices_taken happened bucket ≤ 524288 + time_waited happened * 4161536 / one_slice
