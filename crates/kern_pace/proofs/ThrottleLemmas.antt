-- The first of a list, once it is replaced, as the last.
use Rattle.std.proofs.Common.{arith, ◌≡◌, ◌<◌, ℕ, List, [], ◌∷◌, ◌++◌, drop, take, length, slice_set, refl}

pub first_last : (items : List ℕ) (item : ℕ) → 0 < length items
    → drop 1 (slice_set items 0 item) ++ take 1 (slice_set items 0 item) ≡ drop 1 items ++ item ∷ []
first_last [] item some = absurd (omega (arith, some))
first_last (first ∷ rest) item some = refl
