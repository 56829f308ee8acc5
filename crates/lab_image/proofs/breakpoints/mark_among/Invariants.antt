use Rattle.std.proofs.Common.{◌≡◌, ◌||◌, ℕ}
use Rattle.lab_image.specs.Addresses.{has}
use Rattle.lab_image.specs.Breakpoints.{is_met_among}
use Rattle.lab_image.proofs.breakpoints.mark_among.Given as goal

-- the set, with what is left to mark, is all
abbrev pub invariant-loop-mapped : goal.invariant-loop-mapped
invariant-loop-mapped l = record {
  marked : (a : ℕ) → (has l.addresses a || is_met_among l.lists l.mapped-iterator a)
      ≡ (has l.fn.addresses a || is_met_among l.lists l.fn.all a);
}
