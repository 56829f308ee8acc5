-- One more address in a set.
use Rattle.std.proofs.Common.{◌≡◌, ℕ, ◌<◌, ◌==◌, ◌||◌, List, Bool, true, false, sym}
use Rattle.std.proofs.Common.{length, slice_set, inl, inr}
use Rattle.std.proofs.Math.Bool.{or-true, or-false}
use Rattle.std.proofs.lemmas.Bool.Decides.{eqb_tells}
use Rattle.std.proofs.lemmas.List.{get_or-set_same, get_or-set_other}
use Rattle.lab_image.specs.Addresses.{has}

pub has_one_more : (members : List Bool) (b a : ℕ) → b < length members
    → has (slice_set members b true) a ≡ (has members a || (b == a))
has_one_more members b a within = elim (eqb_tells b a) [
  | inl same ↦ rw (same.0, or-true, ← same.1) (get_or-set_same members b true false within)
  | inr other ↦ rw (other.0, or-false) (get_or-set_other members b a true false (λ e. other.1 (sym e)))
]
