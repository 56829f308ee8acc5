-- The mapped addresses: those whose byte is the first of its statement.
use Rattle.std.specs.Prelude.{◌≡◌, ℕ, ◌<◌, List, [], ◌∷◌, ◌==◌, Option, Some, None, if◌then◌else◌}
use Rattle.std.specs.List.{filter, filter_map}
use Rattle.lab_image.specs.declared.mapped.MappedAddress.{MappedAddress}
use Rattle.lab_image.specs.declared.origin.Origin.{Origin}
use Rattle.lab_image.specs.declared.spans.Span.{Span}
use Rattle.lab_image.specs.Spans.{lies_in}
use Rattle.lab_image.specs.Loads.{Load, origin_of}

-- an address with its origin, if it is the first of its statement
abbrev pub mapped_by : ℕ → Option Origin → List MappedAddress
mapped_by address None = []
mapped_by address (Some o) =
    if o.is_first then (record { address = address; source = o.source; line = o.line } ∷ []) else []

-- What these loads map: each address once, with its origin, if its byte is the first of its statement.
abbrev pub AreMapped : List Load → List MappedAddress → Type 0
AreMapped loads all =
    (address : ℕ) → address < 65536
    → filter (λ m. m.address == address) all ≡ mapped_by address (origin_of loads address)

-- ---- what is kept

-- the address of a row, if the span still has it
abbrev pub first_of : Span → Option MappedAddress
first_of r =
    if lies_in r r.start then Some (record { address = r.start; source = r.source; line = r.line }) else None

abbrev pub firsts_of : List Span → List MappedAddress
firsts_of spans = filter_map first_of spans
