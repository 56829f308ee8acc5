-- The image of a cell, bytes with their addresses in the order of statements, as text.
use Rattle.std.specs.Prelude.{ℕ, suc, zero, ◌+◌, ◌-◌, List, [], ◌∷◌, ◌++◌, length, take, replicate, Option}
use Rattle.std.specs.Prelude.{Some, None, slice_set, codes}
use Rattle.base_text.specs.Hexadecimal.{upper_word}
use Rattle.cli_io.specs.Report.{line}
use Rattle.cli_run.specs.Printed.{field}

-- cells, each with the byte of its address, if there is one
abbrev pub fill : List (ℕ × ℕ) → List (Option ℕ) → List (Option ℕ)
fill [] cells = cells
fill (p ∷ ps) cells = fill ps (slice_set cells p.0 (Some p.1))

-- a cell for each of the 65,536 addresses
unfoldable pub cells_of : List (ℕ × ℕ) → List (Option ℕ)
cells_of image = fill image (replicate 65536 None)

-- the bytes up to the first cell that has none
abbrev pub leading : List (Option ℕ) → List ℕ
leading [] = []
leading (None ∷ cells) = []
leading (Some byte ∷ cells) = byte ∷ leading cells

-- each byte after a blank
abbrev pub spaced_bytes : List ℕ → List ℕ
spaced_bytes [] = []
spaced_bytes (byte ∷ bytes) = field (codes " ") byte ++ spaced_bytes bytes

abbrev pub image_line : ℕ → List ℕ → List ℕ
image_line address bytes = line (upper_word address ++ codes ":" ++ spaced_bytes bytes)

-- The lines of the cells from an address on, the first `printed` of which are on a line already: a line
-- begins at each byte that isn't printed yet, and has the bytes from there on, at most 16.
unfoldable pub lines_from : ℕ → ℕ → List (Option ℕ) → List ℕ
lines_from address printed [] = []
lines_from address (suc printed) (cell ∷ cells) = lines_from (address + 1) printed cells
lines_from address zero (None ∷ cells) = lines_from (address + 1) 0 cells
lines_from address zero (Some byte ∷ cells) =
    let bytes = leading (take 16 (Some byte ∷ cells)) in
    image_line address bytes ++ lines_from (address + 1) (length bytes - 1) cells

-- the image in the order of addresses
abbrev pub image_text : List (ℕ × ℕ) → List ℕ
image_text image = lines_from 0 0 (cells_of image)
