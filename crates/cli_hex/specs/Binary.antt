-- The bytes of a memory, one after the other. Between them, what has no byte is 0.
use Rattle.std.specs.Prelude.{ℕ, List, [], ◌∷◌, Bool, map, reverse, take, drop, is_some, Option, Some, None}
use Rattle.std.specs.Prelude.{unwrap_or}
use Rattle.std.specs.List.{list_any}

-- cells from the first on that has a byte
abbrev pub from_first : List (Option ℕ) → List (Option ℕ)
from_first [] = []
from_first (None ∷ cells) = from_first cells
from_first (Some byte ∷ cells) = Some byte ∷ cells

-- cells up to the last that has a byte
abbrev pub to_last : List (Option ℕ) → List (Option ℕ)
to_last cells = reverse (from_first (reverse cells))

abbrev pub plain_bytes : List (Option ℕ) → List ℕ
plain_bytes cells = map (λ cell. unwrap_or cell 0) cells

-- from the first byte to the last
unfoldable pub binary_of : List (Option ℕ) → List ℕ
binary_of cells = plain_bytes (to_last (from_first cells))

-- from 0100H to the last byte
unfoldable pub com_of : List (Option ℕ) → List ℕ
com_of cells = plain_bytes (to_last (drop 256 cells))

-- whether there is a byte below 0100H
unfoldable pub is_below : List (Option ℕ) → Bool
is_below cells = list_any is_some (take 256 cells)
