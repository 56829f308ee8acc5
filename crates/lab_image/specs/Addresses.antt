-- A set of addresses, as a truth value for each.
use Rattle.std.specs.Prelude.{◌≡◌, ℕ, List, Bool, true, false, slice_index_or}

abbrev pub has : List Bool → ℕ → Bool
has members address = slice_index_or members address false

-- no address is in it
abbrev pub IsEmpty : List Bool → Type 0
IsEmpty members = (address : ℕ) → has members address ≡ false

-- whether it is empty, or has an address
abbrev pub TellsEmpty : Bool → List Bool → Type 0
TellsEmpty true members = IsEmpty members
TellsEmpty false members = (address : ℕ) × (has members address ≡ true)
