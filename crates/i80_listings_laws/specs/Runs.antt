-- The runs of a memory with gaps, which has for each address from 0 on its byte, if it has one.
use Rattle.std.specs.Prelude.{◌≡◌, ℕ, ◌+◌, ◌<◌, ◌≤◌, List, [], ◌∷◌, ◌++◌, Option, Some, None, length}
use Rattle.std.specs.Prelude.{if◌then◌else◌, ◌==◌}
use Rattle.i80_listings_laws.specs.Bytes.{image_from}

-- ---- the bytes

-- the bytes with their addresses, where the first cell is at this address
unfoldable pub present_from : ℕ → List (Option ℕ) → List (ℕ × ℕ)
present_from address [] = []
present_from address (None ∷ cells) = present_from (address + 1) cells
present_from address (Some b ∷ cells) = (address, b) ∷ present_from (address + 1) cells

abbrev pub present : List (Option ℕ) → List (ℕ × ℕ)
present cells = present_from 0 cells

-- ---- runs

-- bytes one after the other, the first of which is at this address
abbrev pub Run : Type 0
Run = ℕ × List ℕ

-- the bytes of runs with their addresses
abbrev pub image_of : List Run → List (ℕ × ℕ)
image_of [] = []
image_of (r ∷ runs) = image_from r.0 r.1 ++ image_of runs

-- none of these runs begins before this address
abbrev pub BeginsFrom : ℕ → List Run → Type 0
BeginsFrom address [] = Unit {0}
BeginsFrom address (r ∷ runs) = address ≤ r.0

-- each run has a byte, and a gap stands between it and the next
abbrev pub AreApart : List Run → Type 0
AreApart [] = Unit {0}
AreApart (r ∷ runs) = (0 < length r.1) × BeginsFrom (r.0 + length r.1 + 1) runs × AreApart runs

-- runs with a byte at an address before them, which is the first of a run if that begins after it
abbrev pub with_byte : ℕ → ℕ → List Run → List Run
with_byte address b [] = (address, b ∷ []) ∷ []
with_byte address b (r ∷ runs) =
    if r.0 == address + 1 then (address, b ∷ r.1) ∷ runs else (address, b ∷ []) ∷ r ∷ runs

-- the runs of cells, the first of which is at this address
unfoldable pub runs_from : ℕ → List (Option ℕ) → List Run
runs_from address [] = []
runs_from address (None ∷ cells) = runs_from (address + 1) cells
runs_from address (Some b ∷ cells) = with_byte address b (runs_from (address + 1) cells)

abbrev pub runs_of : List (Option ℕ) → List Run
runs_of cells = runs_from 0 cells

-- The runs have these bytes, one after the other, and each run is as long as it can be.
pub record AreRuns (runs : List Run) (image : List (ℕ × ℕ)) : Type 0 where
  pub bytes : image_of runs ≡ image
  pub apart : AreApart runs
