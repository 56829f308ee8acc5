-- Lines of disassembly, one line on.
use Rattle.std.proofs.Common.{◌≡◌, ◌<◌, ◌≤◌, ◌+◌, ◌-◌, ℕ, suc, [], ◌∷◌, refl, arith}
use Rattle.i80_exec.specs.State.{MachineState}
use Rattle.lab_views.specs.Code.{line_at, next_address, lines_from, after_instructions}

one_more_left : (count k : ℕ) → k < count → count - k ≡ suc (count - (k + 1))
one_more_left count k h = omega arith

none_left : (count k : ℕ) → count ≤ k → count - k ≡ 0
none_left count k h = omega arith

pub lines_from-next : (m : MachineState) (address count k : ℕ) → k < count
    → lines_from m address (count - k) ≡ line_at m address ∷ lines_from m (next_address m address)
    (count - (k + 1))
unfolding lines_from
lines_from-next m address count k h = rw (one_more_left count k h) refl

pub lines_from-end : (m : MachineState) (address count k : ℕ) → count ≤ k
    → lines_from m address (count - k) ≡ []
unfolding lines_from
lines_from-end m address count k h = rw (none_left count k h) refl

pub after-next : (m : MachineState) (address count k : ℕ) → k < count
    → after_instructions m address (count - k) ≡ after_instructions m (next_address m address)
    (count - (k + 1))
unfolding after_instructions
after-next m address count k h = rw (one_more_left count k h) refl

pub after-end : (m : MachineState) (address count k : ℕ) → count ≤ k
    → after_instructions m address (count - k) ≡ address
unfolding after_instructions
after-end m address count k h = rw (none_left count k h) refl
