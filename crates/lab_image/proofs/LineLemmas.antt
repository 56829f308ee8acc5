-- The lines of a text, one byte on.
use Rattle.std.proofs.Common.{◌≡◌, ◌<◌, ◌≤◌, ◌+◌, ◌==◌, ℕ, List, length, take, slice_index_or, cond, refl}
use Rattle.std.proofs.Common.{arith}
use Rattle.std.proofs.lemmas.List.{take_all}
use Rattle.std.proofs.lemmas.List.Filters.{length-filter_more}
use Rattle.lab_image.specs.Sources.{line_count}

pub one_more : (text : List ℕ) (i : ℕ) → i < length text
    → line_count (take (i + 1) text) ≡ line_count (take i text) + cond (slice_index_or text i 0 == 10) 1 0
one_more text i h = omega (arith, length-filter_more (λ byte. byte == 10) text i 0 h)

pub all_lines : (text : List ℕ) (i : ℕ) → length text ≤ i → line_count (take i text) ≡ line_count text
all_lines text i h = rw (take_all i text h) refl
