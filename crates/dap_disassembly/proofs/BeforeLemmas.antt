-- Instructions, one on and one back.
use Rattle.std.proofs.Common.{◌≡◌, ◌<◌, ◌≤◌, ◌+◌, ◌-◌, ◌==◌, ℕ, suc, true, Some, refl, arith}
use Rattle.i80_exec.specs.State.{MachineState}
use Rattle.lab_image.specs.declared.origin.Origin.{Origin}
use Rattle.lab_image.specs.Loads.{origin_of}
use Rattle.lab_views.specs.Code.{next_address, after_instructions}
use Rattle.lab_core.specs.Board.{Board}
use Rattle.dap_disassembly.specs.Instructions.{ends_before, instruction_before, before_instructions}

pub after_one : (m : MachineState) (address : ℕ) → after_instructions m address 1 ≡ next_address m address
unfolding after_instructions
after_one m address = refl

one_more_left : (count k : ℕ) → k < count → count - k ≡ suc (count - (k + 1))
one_more_left count k h = omega arith

none_left : (count k : ℕ) → count ≤ k → count - k ≡ 0
none_left count k h = omega arith

pub before-next : (b : Board) (address count k : ℕ) → k < count
    → before_instructions b address (count - k)
    ≡ before_instructions b (instruction_before b address) (count - (k + 1))
unfolding before_instructions
before-next b address count k h = rw (one_more_left count k h) refl

pub before-end : (b : Board) (address count k : ℕ) → count ≤ k
    → before_instructions b address (count - k) ≡ address
unfolding before_instructions
before-end b address count k h = rw (none_left count k h) refl

pub ends_before-begun : (b : Board) (address start next : ℕ) (origin : Origin)
    → origin_of b.loads start ≡ Some origin → origin.is_first ≡ true
    → next ≡ after_instructions b.machine start 1 → (next == address) ≡ ends_before b address start
ends_before-begun b address start next origin found first next-is =
    rw (found, first, next-is, after_one b.machine start) refl
