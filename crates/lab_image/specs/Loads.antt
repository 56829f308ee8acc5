-- Where the bytes in memory come from, by the list of all loads.
use Rattle.std.specs.Prelude.{◌≡◌, ℕ, ◌+◌, ◌<◌, List, [], ◌∷◌, ◌++◌, length, Bool, ◌&&◌, ◌==◌, nat_le, nat_lt}
use Rattle.std.specs.Prelude.{Option, Some, None, if◌then◌else◌}
use Rattle.std.specs.List.{filter_map, flat_map, last_or}
use Rattle.asm_build.specs.declared.built.Row.{Row}
use Rattle.asm_build.specs.declared.built.Built.{Built}
use Rattle.lab_image.specs.declared.origin.Origin.{Origin}
use Rattle.lab_image.specs.declared.spans.Span.{Span}
use Rattle.lab_image.specs.Spans.{AreSpans, origin_in}

-- ---- origins

-- what a cell gave: its rows, as rows of a source
pub record Load : Type 0 where
  pub source : ℕ
  pub rows : List Row

abbrev pub load_of : ℕ → Built → Load
load_of source built = record { source = source; rows = built.rows.items }

-- a row covers as many addresses as it has bytes, from its own on
abbrev pub covers : Row → ℕ → Bool
covers row address = nat_le row.address address && nat_lt address (row.address + row.length)

-- the origin that a row gives an address, if it covers it
abbrev pub told_by : ℕ → ℕ → Row → Option Origin
told_by address source row =
    if covers row address
    then Some (record { source = source; line = row.line; is_first = address == row.address })
    else None

-- the origins that the rows of a load give an address, in order
abbrev pub told_in : ℕ → Load → List Origin
told_in address load = filter_map (told_by address load.source) load.rows

-- the last origin that all loads give an address
abbrev pub origin_of : List Load → ℕ → Option Origin
origin_of loads address = last_or None (flat_map (told_in address) loads)

-- ---- what is kept

-- the new spans give an address the last origin that these rows of a source give it, or else its old one
abbrev pub Tells : ℕ → List Row → List Span → List Span → Type 0
Tells source rows old new =
    (address : ℕ) → address < 65536
    → origin_in new address
    ≡ last_or (origin_in old address) (told_in address (record { source = source; rows = rows }))

-- the rows before the later ones are told, at least one if there are later ones
pub record Fronts (source : ℕ) (rows later : List Row) (old new : List Span) : Type 0 where
  pub done : List Row
  pub whole : rows ≡ done ++ later
  pub told : Tells source done old new
  pub sorted : AreSpans 0 new 65536
  pub fewer : 0 < length later → length later < length rows

-- the spans give each address the origin that these loads give it
abbrev pub GivesOrigins : List Span → List Load → Type 0
GivesOrigins spans loads =
    (address : ℕ) → address < 65536 → origin_in spans address ≡ origin_of loads address

-- whatever was loaded before, this load comes after it
abbrev pub Appends : Load → List Span → List Span → Type 0
Appends load old new = (loads : List Load) → GivesOrigins old loads → GivesOrigins new (loads ++ load ∷ [])
