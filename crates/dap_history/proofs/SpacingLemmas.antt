-- The search for a spacing.
use Rattle.std.proofs.Common.{◌≡◌, ◌≤◌, ◌<◌, ◌*◌, ◌^◌, ◌∙◌, ◌+◌, ℕ, zero, suc, true, false, nat_le}
use Rattle.std.proofs.Common.{refl, sym, ap}
use Rattle.std.proofs.Common.{arith, ◌-◌, ◌/◌, ◌%◌, inl, inr, mul_comm, mul-one, mul_assoc, mod-lt}
use Rattle.std.proofs.Math.Nat.{pow-suc, div-add-mod, mul-mod_left}
use Rattle.std.proofs.lemmas.Bool.{cases_lt}
use Rattle.std.proofs.lemmas.Bool.Decides.{nat_tests}
use Rattle.dap_history.specs.Spacing.{spacing_from, stays_in}

pub spacing_here : (k p distance : ℕ) → distance ≤ 17 * p → spacing_from k p distance ≡ p
unfolding spacing_from
spacing_here zero p distance within = refl
spacing_here (suc k) p distance within =
    let is : nat_le distance (17 * p) ≡ true = grind (arith, nat_tests) in
    rw is refl

further : (k p distance : ℕ) → 17 * p < distance
    → spacing_from (suc k) p distance ≡ spacing_from k (2 * p) distance
unfolding spacing_from
further k p distance beyond =
    let is : nat_le distance (17 * p) ≡ false = grind (arith, nat_tests) in
    rw is refl

double : (p k : ℕ) → (2 * p) * 2 ^ k ≡ p * 2 ^ (suc k)
double p k = rw (pow-suc 2 k) (omega arith)

-- one doubling more
pub spacing_on : (k p distance : ℕ) → p * 2 ^ k ≡ 2 ^ 44 → 17 * p < distance → distance < 2 ^ 44
    → spacing_from k p distance ≡ spacing_from 44 1 distance
    → (j : ℕ) × ((p * 2) * 2 ^ j ≡ 2 ^ 44) × (spacing_from j (p * 2) distance ≡ spacing_from 44 1 distance)
spacing_on zero p distance size beyond bound same =
    absurd (omega arith)
spacing_on (suc k) p distance size beyond bound same =
    let twice : p * 2 ≡ 2 * p = omega arith in
    rw twice (k, double p k ∙ size, sym (further k p distance beyond) ∙ same)

-- ---- what stays

-- a power of two that covers the distance is a multiple of its spacing
divides : (k p distance j : ℕ) → distance ≤ 17 * (p * 2 ^ j)
    → (m : ℕ) × (p * 2 ^ j ≡ m * spacing_from k p distance)
unfolding spacing_from
divides zero p distance j within = (2 ^ j, mul_comm p (2 ^ j))
divides (suc k) p distance zero within =
    let near : distance ≤ 17 * p = omega (arith, within, mul-one p) in
    (1, rw (spacing_here (suc k) p distance near) (mul_comm p 1))
divides (suc k) p distance (suc j) within = elim (cases_lt (17 * p) distance) [
  | inl beyond ↦ (
      let twice = double p j in
      let on = divides k (2 * p) distance j (rw twice within) in
      rw (further k p distance beyond, ← twice) on
      )
  | inr near ↦ (2 ^ suc j, rw (spacing_here (suc k) p distance near) (mul_comm p (2 ^ suc j)))
]

-- a multiple of a multiple
whole_multiple : (unit m s P : ℕ) → P ≡ m * s → unit % P ≡ 0 → unit % s ≡ 0
whole_multiple unit m s P is whole =
    let split = div-add-mod unit P in
    let times : P * (unit / P) ≡ ((unit / P) * m) * s =
    mul_comm P (unit / P) ∙ ap (λ x. (unit / P) * x) is ∙ sym (mul_assoc (unit / P) m s) in
    let all : unit ≡ ((unit / P) * m) * s = omega (arith, split, whole, times) in
    ap (λ x. x % s) all ∙ mul-mod_left ((unit / P) * m) s

-- a unit that such a power divides stays
pub multiple_stays : (unit now j : ℕ) → now - unit ≤ 17 * 2 ^ j → unit % 2 ^ j ≡ 0
    → stays_in unit now ≡ true
multiple_stays unit now j within whole =
    let one : 1 * 2 ^ j ≡ 2 ^ j = omega arith in
    let d = divides 44 1 (now - unit) j (rw one within) in
    let none = whole_multiple unit d.0 (spacing_from 44 1 (now - unit)) (2 ^ j) (sym one ∙ d.1) whole in
    rw none refl

-- a spacing is such a power
covers : (k p distance : ℕ) → distance ≤ 17 * (p * 2 ^ k)
    → (i : ℕ) × (spacing_from k p distance ≡ p * 2 ^ i) × (distance ≤ 17 * (p * 2 ^ i))
unfolding spacing_from
covers zero p distance within = (0, sym (mul-one p), within)
covers (suc k) p distance within = elim (cases_lt (17 * p) distance) [
  | inl beyond ↦ (
      let on = covers k (2 * p) distance (rw (double p k) within) in
      let twice = double p on.0 in
      (suc on.0, further k p distance beyond ∙ on.1 ∙ twice, rw (← twice) on.2)
      )
  | inr near ↦ (
      let one : p * 2 ^ 0 ≡ p = mul-one p in
      (0, spacing_here (suc k) p distance near ∙ sym one, rw one near)
      )
]

-- what stays later, stayed before
pub stayed : (unit now later : ℕ) → now ≤ later → later - unit ≤ 17 * 2 ^ 44 → stays_in unit later ≡ true
    → stays_in unit now ≡ true
stayed unit now later order bound stays =
    let is = covers 44 1 (later - unit) (omega (arith, bound)) in
    let one : 1 * 2 ^ is.0 ≡ 2 ^ is.0 = omega arith in
    let whole : unit % spacing_from 44 1 (later - unit) ≡ 0 = grind (arith, nat_tests, stays) in
    multiple_stays unit now is.0 (omega (arith, is.2, one, order)) (rw (is.1 ∙ one) at whole)

positive : (j : ℕ) → 1 ≤ 2 ^ j
positive zero = omega arith
positive (suc j) = let twice = pow-suc 2 j in let less = positive j in omega (arith, twice, less)

-- ---- a power of two that is small and large enough for a distance

power_for : (k j distance : ℕ) → 8 * 2 ^ j ≤ distance + 8 → distance ≤ k + 16 * 2 ^ j + 1
    → (i : ℕ) × (8 * 2 ^ i ≤ distance + 8) × (distance ≤ 16 * 2 ^ i + 1)
power_for zero j distance small large = (j, small, omega (arith, large))
power_for (suc k) j distance small large = elim (cases_lt (16 * 2 ^ j + 1) distance) [
  | inl beyond ↦ (
      let twice = pow-suc 2 j in
      let some = positive j in
      power_for k (suc j) distance (omega (arith, twice, beyond)) (omega (arith, twice, large, some))
      )
  | inr within ↦ (j, small, within)
]

near_by : (unit now i : ℕ) → unit ≤ now → 8 * 2 ^ i ≤ (now - unit) + 8 → now - unit ≤ 16 * 2 ^ i + 1
    → (k : ℕ) × (k ≤ unit) × (stays_in k now ≡ true) × (8 * (unit - k) ≤ now - unit)
near_by unit now i within small large =
    let P = 2 ^ i in
    let k = (unit / P) * P in
    let some = positive i in
    let split = div-add-mod unit P in
    let comm = mul_comm P (unit / P) in
    let low = mod-lt unit some in (
      k,
      omega (arith, split, comm),
      multiple_stays k now i (omega (arith, split, comm, low, large)) (mul-mod_left (unit / P) P),
      omega (arith, split, comm, low, small),
    )

pub moment_near : (unit now : ℕ) → unit ≤ now
    → (k : ℕ) × (k ≤ unit) × (stays_in k now ≡ true) × (8 * (unit - k) ≤ now - unit)
moment_near unit now within =
    let distance = now - unit in
    let i = power_for distance 0 distance (omega arith) (omega arith) in
    near_by unit now i.0 within i.1 i.2
