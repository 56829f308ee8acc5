-- How the listing of a memory with gaps is written.
use Rattle.std.specs.Prelude.{ℕ, List, [], ◌∷◌, ◌++◌, Option, Some, None, codes}
use Rattle.asm_syntax.specs.Numerals.{word_text}
use Rattle.i80_dis.specs.Text.{text_line, listing_of}
use Rattle.i80_listings_laws.specs.Runs.{Run, runs_of}

-- the listings of runs, one after the other
abbrev pub runs_text : List Run → List ℕ
runs_text [] = []
runs_text (r ∷ runs) = listing_of r.0 r.1 ++ runs_text runs

abbrev pub start_line : ℕ → List ℕ
start_line start = text_line (codes "END " ++ word_text start)

-- END with the start, if there is one
abbrev pub start_text : Option ℕ → List ℕ
start_text None = []
start_text (Some start) = start_line start

-- the listing of each run, and last END with the start
unfoldable pub listings_of : List (Option ℕ) → Option ℕ → List ℕ
listings_of cells start = runs_text (runs_of cells) ++ start_text start
