-- Changes of watched places (Debug Adapter Protocol, "DataBreakpoint").
use Rattle.std.specs.Prelude.{ℕ, ◌≡◌, List, [], ◌∷◌, map, Bool, ◌&&◌, ◌==◌, Option, Some, None, is_some}
use Rattle.std.specs.Prelude.{if◌then◌else◌}
use Rattle.std.specs.List.{list_any}
use Rattle.std.specs.Option.{option_or}
use Rattle.lab_shown.specs.declared.place.Place.{Place}
use Rattle.lab_shown.specs.declared.place.PlaceChange.{PlaceChange}
use Rattle.lab_core.specs.declared.marks.Watch.{Watch}
use Rattle.lab_core.specs.Board.{Board}
use Rattle.lab_core.specs.Marks.{MarksState, value_at}
use Rattle.dap_slice.specs.declared.conditions.ConditionalBreakpoint.{ConditionalBreakpoint}
use Rattle.dap_slice.specs.declared.conditions.Trigger.{Trigger}
use Rattle.dap_slice.specs.declared.conditions.Trigger.TheVariants as trigger
use Rattle.dap_slice.specs.Hits.{is_wanted}
use Rattle.dap_slice.specs.Conditions.{holds_on, watched_places}

-- a place with its values before and after a step from the first board to the second
abbrev pub watch_between : Board → Board → Place → Watch
watch_between was b place =
    record { place = place; before = value_at place was.machine; after = value_at place b.machine }

-- the change, by an instruction at this address, of a place with these values, if they differ
abbrev pub change_in : Watch → ℕ → Option PlaceChange
change_in w by =
    if w.before == w.after then None
    else Some (record { place = w.place; before = w.before; after = w.after; by = by })

-- the change of a place by the step
abbrev pub change_of : Board → Board → Place → Option PlaceChange
change_of was b place = change_in (watch_between was b place) was.machine.regs.pc

abbrev pub change_by : Board → Board → Trigger → Option PlaceChange
change_by was b (trigger.Address address) = None
change_by was b (trigger.Change place) = change_of was b place
change_by was b (trigger.Line line) = None

-- the change at which a breakpoint acts, whose condition is asked after the step
abbrev pub change_on : Board → Board → ConditionalBreakpoint → Option PlaceChange
change_on was b p =
    if is_wanted p.hits && holds_on b p.condition then change_by was b p.trigger else None

-- that of the first breakpoint that has one
abbrev pub first_change : List ConditionalBreakpoint → Board → Board → Option PlaceChange
first_change [] was b = None
first_change (p ∷ ps) was b = option_or (change_on was b p) (first_change ps was b)

-- it stops the run, while a debugger is attached
abbrev pub change_at : List ConditionalBreakpoint → Board → Board → Option PlaceChange
change_at points was b = if b.is_attached then first_change points was b else None

-- whether the step changes a watched place, whatever the conditions are
abbrev pub is_any_changed : List ConditionalBreakpoint → Board → Board → Bool
is_any_changed points was b = list_any (λ p. is_some (change_by was b p.trigger)) points

-- ---- marks

-- the marks are those after the step
pub record IsAfterStep (points : List ConditionalBreakpoint) (was b : Board) (marks : MarksState)
    : Type 0 where
  pub watches : marks.watches ≡ map (watch_between was b) (watched_places points)
  pub stepped_from : marks.stepped_from ≡ was.machine.regs.pc
