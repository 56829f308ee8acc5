-- Sorted spans of addresses that don't overlap.
use Rattle.std.specs.Prelude.{ℕ, ◌+◌, ◌<◌, ◌≤◌, List, [], ◌∷◌, ◌++◌, length, slice_index_or, Bool, ◌&&◌, ◌==◌}
use Rattle.std.specs.Prelude.{nat_le, nat_lt, max, min, Option, Some, None, if◌then◌else◌}
use Rattle.std.specs.List.{flat_map}
use Rattle.asm_build.specs.declared.built.Row.{Row}
use Rattle.lab_image.specs.declared.origin.Origin.{Origin}
use Rattle.lab_image.specs.declared.spans.Span.{Span}

-- one after another, none empty, from one address on and below another
abbrev pub AreSpans : ℕ → List Span → ℕ → Type 0
AreSpans low [] high = low ≤ high
AreSpans low (r ∷ rs) high = (low ≤ r.from) × (r.from < r.to) × AreSpans r.to rs high

abbrev pub lies_in : Span → ℕ → Bool
lies_in r address = nat_le r.from address && nat_lt address r.to

-- the origin of an address in a span
abbrev pub origin_at : Span → ℕ → Origin
origin_at r address = record { source = r.source; line = r.line; is_first = address == r.start }

-- the origin of an address
abbrev pub origin_in : List Span → ℕ → Option Origin
origin_in [] address = None
origin_in (r ∷ rs) address =
    if (lies_in r address) then (Some (origin_at r address)) else (origin_in rs address)

-- what is read after the last span
abbrev pub no_span : Span
no_span = record { from = 0; to = 0; start = 0; source = 0; line = 0 }

-- that many spans end at or below an address, and the others above it
pub record EndBy (spans : List Span) (address count : ℕ) : Type 0 where
  pub within : count ≤ length spans
  pub ended : (i : ℕ) → i < count → (slice_index_or spans i no_span).to ≤ address
  pub beyond : (i : ℕ) → count ≤ i → i < length spans → address < (slice_index_or spans i no_span).to

-- what a span has of the addresses from one on and below another
abbrev pub part : ℕ → ℕ → Span → List Span
part low high r =
    if nat_lt (max low r.from) (min r.to high)
    then ((record r { from = max low r.from; to = min r.to high }) ∷ []) else []

abbrev pub between : ℕ → ℕ → List Span → List Span
between low high spans = flat_map (part low high) spans

-- from an address on the new spans, and between them what the old ones have left
abbrev pub overlay : ℕ → List Span → List Span → List Span
overlay low old [] = between low 65536 old
overlay low old (r ∷ rs) = between low r.from old ++ r ∷ overlay r.to old rs

-- the addresses of a row, none of them past the last one of memory
abbrev pub whole_span : ℕ → Row → Span
whole_span source row = record {
  from = row.address;
  to = min (row.address + row.length) 65536;
  start = row.address;
  source = source;
  line = row.line;
}

-- a row has a span if it gives bytes
abbrev pub span_of : ℕ → Row → Option Span
span_of source row = if row.length == 0 then None else Some (whole_span source row)
