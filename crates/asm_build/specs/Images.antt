-- Which addresses have a byte.
use Rattle.std.specs.Prelude.{ℕ, List, Bool, ◌==◌}
use Rattle.std.specs.List.{list_any}

-- an address has a byte
abbrev pub has : List (ℕ × ℕ) → ℕ → Bool
has image address = list_any (λ p. p.0 == address) image
