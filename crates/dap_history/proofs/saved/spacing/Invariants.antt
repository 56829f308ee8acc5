use Rattle.std.proofs.Common.{◌≡◌, ◌≤◌, ◌*◌, ◌-◌, ◌^◌, ℕ}
use Rattle.dap_history.specs.Spacing.{spacing_from}
use Rattle.dap_history.proofs.saved.spacing.Given as goal

abbrev pub invariant-loop-p : goal.invariant-loop-p
invariant-loop-p l = record {
  more : (k : ℕ) × (l.p * 2 ^ k ≡ 2 ^ 44) × (spacing_from k l.p l.distance ≡ spacing_from 44 1 l.distance);
  some : 1 ≤ l.p;
  small : l.p ≤ 2 ^ 44;
}

abbrev pub decreases-loop-p : goal.decreases-loop-p
decreases-loop-p l = l.distance - l.p
