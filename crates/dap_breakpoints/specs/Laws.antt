-- Which data an editor can set, which breakpoints on data are watched, and which at instructions are met.
use Rattle.std.specs.Prelude.{◌≡◌, ℕ, List, Option, Some, Ok, true, Contains, slice_get}
use Rattle.base_text.specs.Bytes.{Text}
use Rattle.lab_shown.specs.declared.place.Place.{Place}
use Rattle.dap_expr.specs.declared.expression.Expression.{Expression}
use Rattle.dap_slice.specs.declared.conditions.ConditionalBreakpoint.{ConditionalBreakpoint}
use Rattle.dap_slice.specs.declared.conditions.Trigger.TheVariants.{Address, Change}
use Rattle.dap_slice.specs.declared.hits.HitCondition.{HitCondition}
use Rattle.dap_messages.specs.declared.message.BreakpointOptions.{BreakpointOptions}
use Rattle.dap_messages.specs.declared.message.DataInfo.{DataInfo}
use Rattle.dap_messages.specs.declared.message.PlacedBreakpoint.{PlacedBreakpoint}
use Rattle.dap_requests.specs.declared.request.DataBreakpoint.{DataBreakpoint}
use Rattle.dap_requests.specs.declared.request.InstructionBreakpoint.{InstructionBreakpoint}
use Rattle.dap_conditions.specs.Conditions.{condition_read, hits_read, stop_at}
use Rattle.dap_breakpoints.specs.declared.place.DataPlace.{DataPlace}
use Rattle.dap_breakpoints.specs.Places.{data_named, places_of}
use Rattle.dap_breakpoints.specs.Info.{description_of}

-- a text sets the data that an editor is told of
abbrev pub SetsDescribed : Text → DataInfo → Type 0
SetsDescribed id info = (d : DataPlace) × (data_named id ≡ Some d) × (info.description ≡ description_of d)

-- a breakpoint of a request, and how an editor is told of it
pub record IsToldAs {D : Type 0} (asked : List D) (told : List PlacedBreakpoint) (d : D)
    (p : PlacedBreakpoint)
    : Type 0 where
  pub index : ℕ
  pub of_request : slice_get asked index ≡ Some d
  pub of_answer : slice_get told index ≡ Some p

-- this holds of each breakpoint that an editor is told of as verified
abbrev pub HoldsOfEachVerified : {D : Type 0} → List D → List PlacedBreakpoint
    → (D → PlacedBreakpoint → Type 0) → Type 0
HoldsOfEachVerified {D} asked told Holds = (d : D) (p : PlacedBreakpoint) → IsToldAs asked told d p
    → p.is_verified ≡ true → Holds d p

-- and this of one of them
abbrev pub HoldsOfVerified : {D : Type 0} → List D → List PlacedBreakpoint
    → (D → PlacedBreakpoint → Type 0) → Type 0
HoldsOfVerified {D} asked told Holds = (d : D) × (p : PlacedBreakpoint) × IsToldAs asked told d p
    × (p.is_verified ≡ true) × Holds d p

-- what is read of a breakpoint's options: its condition and its hit condition
pub record IsRead (o : BreakpointOptions) (condition : Option Expression) (hits : Option HitCondition)
    : Type 0 where
  pub condition_is : condition_read o.condition ≡ Ok condition
  pub hits_are : hits_read o.hit_condition ≡ Some hits

-- ---- on data

-- these stop a run at each of the breakpoint's places, with its number, under its conditions
abbrev pub AreAllWatched : List ConditionalBreakpoint → DataBreakpoint → PlacedBreakpoint → Type 0
AreAllWatched watches d p = (place : DataPlace) × (condition : Option Expression)
    × (hits : Option HitCondition) × (data_named d.data_id ≡ Some place) × IsRead d.options condition hits
    × ((at : Place) → Contains (places_of place) at
    → Contains watches (stop_at p.id (Change at) condition hits))

-- this stops a run at one of the breakpoint's places, with its number, under its conditions
abbrev pub IsWatchOf : ConditionalBreakpoint → DataBreakpoint → PlacedBreakpoint → Type 0
IsWatchOf w d p = (place : DataPlace) × (condition : Option Expression) × (hits : Option HitCondition)
    × (at : Place) × (data_named d.data_id ≡ Some place) × IsRead d.options condition hits
    × Contains (places_of place) at × (w ≡ stop_at p.id (Change at) condition hits)

-- ---- at instructions

-- One of these stops a run at the breakpoint's address, which an editor is told, with its number, under its
-- conditions.
abbrev pub IsMetAsTold : List ConditionalBreakpoint → InstructionBreakpoint → PlacedBreakpoint → Type 0
IsMetAsTold breaks i p = (address : ℕ) × (condition : Option Expression) × (hits : Option HitCondition)
    × (i.address ≡ Some address) × IsRead i.options condition hits × (p.address ≡ Some address)
    × Contains breaks (stop_at p.id (Address address) condition hits)

-- this stops a run at the breakpoint's address, with its number, under its conditions
abbrev pub IsBreakOf : ConditionalBreakpoint → InstructionBreakpoint → PlacedBreakpoint → Type 0
IsBreakOf w i p = (address : ℕ) × (condition : Option Expression) × (hits : Option HitCondition)
    × (i.address ≡ Some address) × IsRead i.options condition hits
    × (w ≡ stop_at p.id (Address address) condition hits)
