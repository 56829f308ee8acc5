-- Bytes with their addresses, as a cell for each address.
use Rattle.std.specs.Prelude.{ℕ, List, [], ◌∷◌, replicate, Option, Some, None, slice_set}

-- cells, with these bytes put into them
abbrev pub fill : List (ℕ × ℕ) → List (Option ℕ) → List (Option ℕ)
fill [] cells = cells
fill (p ∷ ps) cells = fill ps (slice_set cells p.0 (Some p.1))

-- a cell for each of the 65,536 addresses, with the byte there, if there is one
unfoldable pub cells_of : List (ℕ × ℕ) → List (Option ℕ)
cells_of bytes = fill bytes (replicate 65536 None)
