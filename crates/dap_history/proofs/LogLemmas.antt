-- Logs whose counts never fall.
use Rattle.std.proofs.Common.{◌≡◌, ◌∙◌, ℕ, ◌+◌, ◌<◌, ◌≤◌, List, [], ◌∷◌, ◌++◌, true, false}
use Rattle.std.proofs.Common.{not, nat_le, nat_lt}
use Rattle.std.proofs.Common.{refl, ap, arith, inl, inr}
use Rattle.std.proofs.lemmas.List.Sums.{sum_by-append}
use Rattle.std.proofs.lemmas.List.Filters.{sum_by-filter_both}
use Rattle.std.proofs.lemmas.Bool.{cases_lt}
use Rattle.std.proofs.lemmas.Bool.Decides.{nat_tests}
use Rattle.dap_history.specs.declared.input.Recorded.{Recorded}
use Rattle.dap_history.specs.Logs.{Ascends, latest_from, up_to, later_than, size_of_input, log_size}

pub ascends_from : (c d : ℕ) (log : List Recorded) → c ≤ d → Ascends d log → Ascends c log
ascends_from c d [] within asc = tt
ascends_from c d (r ∷ rs) within asc = let first = asc.0 in (omega arith, asc.1)

-- all inputs of a log are later than a count below its first
pub all_later : (n c : ℕ) (log : List Recorded) → Ascends c log → n < c → later_than n log ≡ log
all_later n c [] asc below = refl
all_later n c (r ∷ rs) asc below =
    let first = asc.0 in
    let is : nat_lt n r.count ≡ true = grind (arith, nat_tests) in
    rw is (ap (λ xs. r ∷ xs) (all_later n r.count rs asc.1 (omega arith)))

pub none_up_to : (n c : ℕ) (log : List Recorded) → Ascends c log → n < c → up_to n log ≡ []
none_up_to n c [] asc below = refl
none_up_to n c (r ∷ rs) asc below =
    let first = asc.0 in
    let is : nat_le r.count n ≡ false = grind (arith, nat_tests) in
    rw is (none_up_to n r.count rs asc.1 (omega arith))

-- a log that is cut after some count, or goes on from its last input's, still ascends
pub ascends-up_to : (n c : ℕ) (log : List Recorded) → Ascends c log → Ascends c (up_to n log)
ascends-up_to n c [] asc = tt
ascends-up_to n c (r ∷ rs) asc = elim (cases_lt n r.count) [
  | inl later ↦ (
      let first = asc.0 in
      let is : nat_le r.count n ≡ false = grind (arith, nat_tests) in
      rw is (ascends_from c r.count (up_to n rs) first (ascends-up_to n r.count rs asc.1))
      )
  | inr within ↦ (
      let is : nat_le r.count n ≡ true = grind (arith, nat_tests) in
      rw is (asc.0, ascends-up_to n r.count rs asc.1)
      )
]

pub ascends-push : (c : ℕ) (log : List Recorded) (r : Recorded) → Ascends c log → latest_from c log ≤ r.count
    → Ascends c (log ++ r ∷ [])
ascends-push c [] r asc within = (within, tt)
ascends-push c (x ∷ xs) r asc within = (asc.0, ascends-push x.count xs r asc.1 within)

pub latest-up_to : (n c : ℕ) (log : List Recorded) → Ascends c log → c ≤ n → latest_from c (up_to n log) ≤ n
latest-up_to n c [] asc within = within
latest-up_to n c (r ∷ rs) asc within = elim (cases_lt n r.count) [
  | inl later ↦ (
      let first = asc.0 in
      let is : nat_le r.count n ≡ false = grind (arith, nat_tests) in
      let none = none_up_to n r.count rs asc.1 later in
      rw (is, none) within
      )
  | inr from ↦ (
      let is : nat_le r.count n ≡ true = grind (arith, nat_tests) in
      rw is (latest-up_to n r.count rs asc.1 from)
      )
]

-- of a log with one input more, what came before that
pub up_to-push : (m : ℕ) (log : List Recorded) (r : Recorded) → m < r.count
    → up_to m (log ++ r ∷ []) ≡ up_to m log
up_to-push m [] r below =
    let is : nat_le r.count m ≡ false = grind (arith, nat_tests) in
    rw is refl
up_to-push m (x ∷ xs) r below = elim (cases_lt m x.count) [
  | inl later ↦ (
      let is : nat_le x.count m ≡ false = grind (arith, nat_tests) in
      rw is (up_to-push m xs r below)
      )
  | inr within ↦ (
      let is : nat_le x.count m ≡ true = grind (arith, nat_tests) in
      rw is (ap (λ xs. x ∷ xs) (up_to-push m xs r below))
      )
]

pub up_to-up_to : (m n : ℕ) (log : List Recorded) → m ≤ n → up_to m (up_to n log) ≡ up_to m log
up_to-up_to m n [] within = refl
up_to-up_to m n (x ∷ xs) within = elim (cases_lt n x.count) [
  | inl later ↦ (
      let far : nat_le x.count n ≡ false = grind (arith, nat_tests) in
      let is : nat_le x.count m ≡ false = grind (arith, nat_tests) in
      rw (far, is) (up_to-up_to m n xs within)
      )
  | inr near ↦ (
      let near' : nat_le x.count n ≡ true = grind (arith, nat_tests) in
      rw near' (elim (cases_lt m x.count) [
        | inl later ↦ (
            let is : nat_le x.count m ≡ false = grind (arith, nat_tests) in
            rw is (up_to-up_to m n xs within)
            )
        | inr before ↦ (
            let is : nat_le x.count m ≡ true = grind (arith, nat_tests) in
            rw is (ap (λ xs. x ∷ xs) (up_to-up_to m n xs within))
            )
      ])
      )
]

-- an input that isn't later than n, before others
pub skipped : (n : ℕ) (r : Recorded) (rs : List Recorded) → r.count ≤ n
    → later_than n (r ∷ rs) ≡ later_than n rs
skipped n r rs within =
    let is : nat_lt n r.count ≡ false = grind (arith, nat_tests) in
    rw is refl

-- and one that is, in a log that ascends
pub all_later_than : (n : ℕ) (r : Recorded) (rs : List Recorded) → Ascends 0 (r ∷ rs) → n < r.count
    → later_than n (r ∷ rs) ≡ r ∷ rs
all_later_than n r rs asc below =
    let is : nat_lt n r.count ≡ true = grind (arith, nat_tests) in
    rw is (ap (λ xs. r ∷ xs) (all_later n r.count rs asc.1 below))

pub log_size-push : (log : List Recorded) (r : Recorded)
    → log_size (log ++ r ∷ []) ≡ log_size log + size_of_input r.input
log_size-push log r =
    let none : 0 + size_of_input r.input ≡ size_of_input r.input = omega arith in
    sum_by-append (λ r. size_of_input r.input) log (r ∷ []) ∙ ap (λ n. log_size log + n) none

pub log_size-up_to : (n : ℕ) (log : List Recorded) → log_size (up_to n log) ≤ log_size log
log_size-up_to n log =
    let both =
    sum_by-filter_both (λ (r : Recorded). nat_le r.count n) (λ r. not (nat_le r.count n)) (λ r. refl)
    (λ r. size_of_input r.input) log in
    omega (arith, both)

pub latest_least : (c : ℕ) (log : List Recorded) → Ascends c log → c ≤ latest_from c log
latest_least c [] asc = omega arith
latest_least c (r ∷ rs) asc = let first = asc.0 in let rest = latest_least r.count rs asc.1 in omega arith
