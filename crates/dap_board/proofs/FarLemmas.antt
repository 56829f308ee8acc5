-- Instructions are passed in parts, and cycles of them are left out.
use Rattle.std.proofs.Common.{◌≡◌, ◌∙◌, ◌+◌, ◌*◌, ◌/◌, ◌%◌, ◌-◌, ◌≤◌, ℕ, zero, suc, refl, sym, ap, arith}
use Rattle.std.proofs.Math.Nat.{mul-suc, div-add-mod}
use Rattle.i80_exec.specs.State.{MachineState}
use Rattle.lab_views.specs.Code.{next_address, after_instructions}

pub after_none : (m : MachineState) (address : ℕ) → after_instructions m address 0 ≡ address
unfolding after_instructions
after_none m address = refl

pub after_sum : (m : MachineState) (address i j : ℕ)
    → after_instructions m address (i + j) ≡ after_instructions m (after_instructions m address i) j
unfolding after_instructions
after_sum m address zero j =
    let e : zero + j ≡ j = omega arith in
    rw e refl
after_sum m address (suc i) j =
    let e : suc i + j ≡ suc (i + j) = omega arith in
    rw e (after_sum m (next_address m address) i j)

-- one part, and what is left
pub after_part : (m : MachineState) (address part count : ℕ) → part ≤ count
    → after_instructions m (after_instructions m address part) (count - part)
    ≡ after_instructions m address count
after_part m address part count within =
    let e : part + (count - part) ≡ count = omega arith in
    sym (after_sum m address part (count - part)) ∙ ap (after_instructions m address) e

after_cycles : (m : MachineState) (address n q r : ℕ) → after_instructions m address n ≡ address
    → after_instructions m address (n * q + r) ≡ after_instructions m address r
after_cycles m address n zero r again =
    let e : n * zero + r ≡ r = omega arith in
    rw e refl
after_cycles m address n (suc q) r again =
    let once : n * suc q ≡ n * q + n = mul-suc n q in
    let e : n * suc q + r ≡ n + (n * q + r) = rw once (omega arith) in
    ap (after_instructions m address) e
    ∙ after_sum m address n (n * q + r)
    ∙ ap (λ a. after_instructions m a (n * q + r)) again
    ∙ after_cycles m address n q r again

pub after_remainder : (m : MachineState) (address n count : ℕ) → after_instructions m address n ≡ address
    → after_instructions m address (count % n) ≡ after_instructions m address count
after_remainder m address n count again =
    sym (after_cycles m address n (count / n) (count % n) again)
    ∙ ap (after_instructions m address) (div-add-mod count n)
