-- Breakpoints: lines of sources, and the addresses at which they are met.
use Rattle.std.specs.Prelude.{◌≡◌, ℕ, ◌<◌, List, [], ◌∷◌, ◌++◌, Bool, true, false, ◌&&◌, ◌==◌, Option, Some}
use Rattle.std.specs.Prelude.{None, if◌then◌else◌}
use Rattle.std.specs.List.{list_any}
use Rattle.lab_image.specs.declared.mapped.MappedAddress.{MappedAddress}
use Rattle.lab_image.specs.declared.origin.Origin.{Origin}
use Rattle.lab_image.specs.Loads.{Load, origin_of}
use Rattle.lab_image.specs.declared.lists.BreakpointList.{BreakpointList}
use Rattle.lab_image.specs.Addresses.{has}

-- ---- the lists

-- the list of a source, if it has a line
abbrev pub list_of : ℕ → List ℕ → List BreakpointList
list_of source [] = []
list_of source (line ∷ lines) = record { source = source; lines = line ∷ lines } ∷ []

-- A source is given its lines: its list keeps its place, a new one comes last, an empty one is removed.
abbrev pub with_lines : ℕ → List ℕ → List BreakpointList → List BreakpointList
with_lines source lines [] = list_of source lines
with_lines source lines (l ∷ ls) =
    if l.source == source then list_of source lines ++ ls else l ∷ with_lines source lines ls

-- ---- where a breakpoint is met

abbrev pub has_line : BreakpointList → ℕ → Bool
has_line l line = list_any (λ n. n == line) l.lines

abbrev pub has_breakpoint : List BreakpointList → ℕ → ℕ → Bool
has_breakpoint lists source line = list_any (λ l. l.source == source && has_line l line) lists

-- at the first byte of a statement on a line that has one
abbrev pub is_met_by : List BreakpointList → Option Origin → Bool
is_met_by lists None = false
is_met_by lists (Some o) = o.is_first && has_breakpoint lists o.source o.line

abbrev pub is_met : List BreakpointList → List Load → ℕ → Bool
is_met lists loads address = is_met_by lists (origin_of loads address)

-- ---- what is kept

-- what a contract sees of the breakpoints: the lists, and whether each address is set
pub record BreakpointState : Type 0 where
  pub lists : List BreakpointList
  pub members : List Bool

abbrev pub is_set : BreakpointState → ℕ → Bool
is_set state address = has state.members address

-- whether there is an address that is set
abbrev pub CanBeMet : Bool → BreakpointState → Type 0
CanBeMet true state = (address : ℕ) × (is_set state address ≡ true)
CanBeMet false state = (address : ℕ) → is_set state address ≡ false

-- one of these is that address, and its line has a breakpoint
abbrev pub is_met_among : List BreakpointList → List MappedAddress → ℕ → Bool
is_met_among lists all address =
    list_any (λ m. m.address == address && has_breakpoint lists m.source m.line) all

-- after these loads, those addresses are set at which a breakpoint is met
abbrev pub MarksBreakpoints : BreakpointState → List Load → Type 0
MarksBreakpoints state loads =
    (address : ℕ) → address < 65536 → is_set state address ≡ is_met state.lists loads address
