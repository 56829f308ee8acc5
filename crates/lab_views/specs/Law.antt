-- What the scopes show after a change by hand.
use Rattle.std.specs.Prelude.{◌≡◌, ◌≢◌, ◌≤◌, ◌<◌, ◌+◌, ℕ, List, map, length, Contains}
use Rattle.std.specs.Prelude.{Result, Ok, Err, IsOkAnd, if◌then◌else◌}
use Rattle.std.specs.Str.{bytes_eq}
use Rattle.i80_exec.specs.State.{MachineState}
use Rattle.lab_shown.specs.declared.shown.Variable.{Variable}
use Rattle.lab_views.specs.declared.fault.ViewFault.{ViewFault}
use Rattle.lab_views.specs.Paging.{asked_for}
use Rattle.lab_views.specs.Parts.{Parts}
use Rattle.lab_views.specs.Variables.{variable, variables_of}
use Rattle.lab_shown.specs.declared.place.Place.{Place}
use Rattle.lab_shown.specs.declared.place.Place.TheVariants as place
use Rattle.lab_views.specs.Places.{shown_name}
use Rattle.lab_views.specs.Values.{text_at}
use Rattle.lab_views.specs.Changes.{machine_with}

-- memory has a byte for each address
abbrev pub IsWhole : MachineState → Type 0
IsWhole m = length m.memory ≡ 65536

-- a board's parts with a value at a place of the machine
abbrev pub parts_changed_at : Place → ℕ → Parts → Parts
parts_changed_at place value p = record p { machine = machine_with place value p.machine }

-- ---- the rows of the scope that has the place

-- a row of this name shows this text, and any other row is as it was
abbrev pub row_with : List ℕ → List ℕ → Variable → Variable
row_with name text row = if bytes_eq row.name name then (record row { value = text }) else row

abbrev pub rows_with : List ℕ → List ℕ → Result (List Variable) ViewFault → Result (List Variable) ViewFault
rows_with name text (Ok rows) = Ok (map (row_with name text) rows)
rows_with name text (Err fault) = Err fault

-- the rows of the scope are as they were, but the place's row shows the value
abbrev pub ShowsValue : Parts → ℕ → Place → ℕ → Type 0
ShowsValue p reference place value = (start count : ℕ)
    → variables_of (parts_changed_at place value p) reference start count
    ≡ rows_with (shown_name place) (text_at place value) (variables_of p reference start count)

-- the place's row is among those that are asked for: a register's always is
abbrev pub IsAsked : Place → ℕ → ℕ → Type 0
IsAsked (place.Memory address) start count = (start ≤ address) × (address < start + asked_for 16 256 count)
IsAsked _ start count = Unit {0}

-- where it is, there is a row of its name with the value
abbrev pub HasRow : Parts → ℕ → Place → ℕ → Type 0
HasRow p reference place value = (start count : ℕ) → IsAsked place start count
    → IsOkAnd (variables_of (parts_changed_at place value p) reference start count)
    (λ rows. Contains rows (variable (shown_name place) (text_at place value)))

-- ---- the other scopes

-- the scope shows what it showed
abbrev pub ShowsTheSame : Parts → ℕ → Place → ℕ → Type 0
ShowsTheSame p reference place value = (start count : ℕ)
    → variables_of (parts_changed_at place value p) reference start count
    ≡ variables_of p reference start count

-- ---- together

-- A place of this scope gets a value: the scope shows it in the place's row, and its other rows as before;
-- the other scopes show what they showed.
pub record ShowsChange (p : Parts) (reference : ℕ) (at : Place) (value : ℕ) : Type 0 where
  pub rows : IsWhole p.machine → ShowsValue p reference at value
  pub row : IsWhole p.machine → HasRow p reference at value
  pub others : (other : ℕ) → other ≢ reference → ShowsTheSame p other at value
