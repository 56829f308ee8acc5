-- The first line of bytes, and those after it.
use Rattle.std.specs.Prelude.{◌≡◌, ℕ, List, ◌∷◌, ◌++◌, length, drop}
use Rattle.i80_dis.specs.declared.line.Shown.{Shown}
use Rattle.i80_dis.specs.Shown.{IsCutOff, first_shown, bytes_shown, lines_of}
use Rattle.i80_listings_laws.specs.Bytes.{AreBytes}

-- the line that is shown first of bytes is the first of their lines; it shows those at their front, as
-- many as it says; where no instruction is cut off, the other lines are those of the bytes after them
pub record IsFirstLine (bytes : List ℕ) : Type 0 where
  pub line : (lines : List Shown) × (lines_of bytes ≡ (first_shown bytes).0 ∷ lines)
  pub others : (IsCutOff bytes → ⊥)
      → lines_of bytes ≡ (first_shown bytes).0 ∷ lines_of (drop (first_shown bytes).1 bytes)
  pub front : AreBytes bytes → (rest : List ℕ) × (bytes ≡ bytes_shown (first_shown bytes).0 ++ rest)
  pub count : AreBytes bytes → (first_shown bytes).1 ≡ length (bytes_shown (first_shown bytes).0)
