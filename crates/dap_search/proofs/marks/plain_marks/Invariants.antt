use Rattle.std.proofs.Common.{◌≡◌, ◌≤◌, ◌-◌, ◌&&◌, ℕ, [], nat_lt}
use Rattle.lab_image.specs.Addresses.{has}
use Rattle.lab_image.specs.Breakpoints.{is_met}
use Rattle.lab_core.specs.Board.{Board}
use Rattle.lab_core.specs.Labs.{RepresentsBoard}
use Rattle.dap_search.proofs.marks.plain_marks.Given as goal

abbrev pub invariant-loop-next : goal.invariant-loop-next
invariant-loop-next l = record {
  addresses : (b : Board) → RepresentsBoard l.lab b
      → (a : ℕ) → has l.marks.addresses a ≡ (nat_lt a l.next && is_met b.breakpoints b.loads a);
  watches : l.marks.watches ≡ [];
  within : l.next ≤ 65536;
}

abbrev pub decreases-loop-next : goal.decreases-loop-next
decreases-loop-next l = 65536 - l.next
